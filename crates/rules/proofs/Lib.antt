pub mod Heads
pub mod Steps
pub mod Endings
