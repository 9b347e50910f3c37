pub mod Offsets
pub mod Numbers
pub mod Counts
pub mod Ends
pub mod Decoding
pub mod Targets
pub mod KindLaws
