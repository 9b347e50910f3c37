-- The numbers in a table: a program under other numbers, the tidy table, and what is so of both.
pub mod Renamed
pub mod Mentions
pub mod Tidy
pub mod Order
pub mod Renumbers
pub mod Means
