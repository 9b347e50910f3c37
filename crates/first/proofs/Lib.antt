pub mod Trails
pub mod Means
pub mod Runs
pub mod Rows
