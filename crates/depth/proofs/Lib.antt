pub mod Transfers
pub mod Memory
pub mod Loops
pub mod Tables
