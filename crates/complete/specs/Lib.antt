-- What the writers of a completed table and the call itself leave.
pub mod Writes
