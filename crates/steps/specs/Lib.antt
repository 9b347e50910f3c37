pub mod Decision
pub mod Choice
pub mod Writes
