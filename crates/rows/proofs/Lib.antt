-- The laws that the crates above cite.
pub mod Rows
pub mod Settled
