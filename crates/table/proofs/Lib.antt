pub mod Laws
pub mod Rules
pub mod Marks
pub mod Placed
pub mod Answered
