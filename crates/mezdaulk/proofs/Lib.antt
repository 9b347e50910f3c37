pub mod Codes
pub mod Threads
pub mod Written
