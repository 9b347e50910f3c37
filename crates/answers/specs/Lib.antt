pub mod Answers
pub mod Coded
