pub mod Signs
pub mod Moves
pub mod Sets
