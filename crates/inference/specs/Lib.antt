-- What version 2 of a table leaves out: the scopes and nestings of its blocks, how they are inferred, and what is so of them.
pub mod Filled
pub mod Infer
pub mod Complete
pub mod Means
