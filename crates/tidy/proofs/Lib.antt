pub mod Putting
pub mod Renaming
pub mod Functions
pub mod Lists
pub mod Placed
pub mod Tables
