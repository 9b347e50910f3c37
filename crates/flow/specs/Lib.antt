pub mod Stages
pub mod Pieces
pub mod Stands
pub mod Sessions
