pub mod Choices
pub mod Going
pub mod Lending
