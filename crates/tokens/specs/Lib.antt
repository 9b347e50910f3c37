-- Heartbeat tokens: purses, beats and runs, and what is promised of them.
pub mod Purses
pub mod Beats
pub mod Means
pub mod Account
