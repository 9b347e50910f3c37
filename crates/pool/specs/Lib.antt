pub mod Frame
pub mod Held
pub mod Edits
pub mod InPlace
