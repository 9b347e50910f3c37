pub mod Begins
pub mod Order
pub mod Printed
pub mod Rows
pub mod Turns
