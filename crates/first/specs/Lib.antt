-- The first thread that can step, and steps by the first.
pub mod Trails
pub mod Means
pub mod Runs
