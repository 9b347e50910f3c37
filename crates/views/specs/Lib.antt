-- One pool, two listings: S-8 of document 02.
pub mod Lines
pub mod Listing
pub mod Means
