-- The scoping of each block of a function, in words.
pub mod Words
pub mod Changes
