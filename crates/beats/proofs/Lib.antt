pub mod Coming
pub mod Purses
pub mod Paying
pub mod Beating
pub mod Running
pub mod Lending
