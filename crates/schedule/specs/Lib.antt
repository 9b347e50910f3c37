pub mod Choices
pub mod Runs
