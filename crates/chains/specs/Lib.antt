-- How deep calls go: what is meant, how it is worked out, and what follows for started pools.
pub mod Chains
pub mod Depth
pub mod Means
pub mod Roomy
