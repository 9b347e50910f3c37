pub mod Bools
pub mod FrameWords
pub mod Runs
pub mod ThreadWords
pub mod PoolWords
pub mod Steps
pub mod Lookups
pub mod Turns
