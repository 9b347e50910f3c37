pub mod NeverJams
pub mod InTurn
