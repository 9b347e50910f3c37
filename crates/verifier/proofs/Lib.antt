pub mod Ranks
pub mod Meaning
