pub mod Purses
pub mod Beating
