-- What the inference in words says.
pub mod Infers
pub mod Nestings
pub mod Needs
pub mod Rounds
