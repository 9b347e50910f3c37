pub mod Exits
pub mod Faults
pub mod Looks
pub mod Walked
