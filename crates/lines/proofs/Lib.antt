pub mod Names
pub mod Refusals
pub mod Spelt
