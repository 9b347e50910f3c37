pub mod Lookups
pub mod Nestings
pub mod Judged
