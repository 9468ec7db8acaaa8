-- The laws that the crates above cite.
pub mod Sets
pub mod Settled
