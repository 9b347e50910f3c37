-- What the writers put, and what the call leaves.
pub mod Putting
pub mod Lists
pub mod Placed
pub mod Functions
pub mod Tables
pub mod Reaching
pub mod Answering
pub mod Inferring
pub mod Completing
pub mod Finishing
