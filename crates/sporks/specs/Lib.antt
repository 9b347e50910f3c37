-- Which spork opened each open call, and what a promotion hands the child.
pub mod Openers
pub mod Handed
