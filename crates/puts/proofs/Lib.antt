pub mod Laws
pub mod Stores
pub mod Left
pub mod Parts
pub mod Tables
