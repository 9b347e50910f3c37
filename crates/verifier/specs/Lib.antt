pub mod Verdicts
pub mod Means
