pub mod Lent
pub mod Ended
