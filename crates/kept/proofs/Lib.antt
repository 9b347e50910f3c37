pub mod Arrays
pub mod Names
pub mod Loops
pub mod Growing
pub mod Ends
