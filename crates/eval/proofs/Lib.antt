pub mod Leaves
pub mod Working
pub mod Buffers
pub mod Lists
pub mod Binds
pub mod Begins
