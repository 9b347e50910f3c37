pub mod Texts
pub mod Frames
pub mod Lists
pub mod Listings
