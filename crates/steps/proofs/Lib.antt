pub mod Effects
pub mod Promotions
pub mod Knowing
pub mod Deciding
pub mod Writing
pub mod Applying
pub mod Choosing
pub mod Stepping
