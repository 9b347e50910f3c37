pub mod Sweeps
pub mod ByKind
pub mod Marking
pub mod Leading
pub mod Needing
pub mod Owning
pub mod Growing
pub mod Ends
