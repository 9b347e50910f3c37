pub mod Blocks
pub mod Filling
pub mod Lookups
