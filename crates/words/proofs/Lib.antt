-- The laws that the crates above cite.
pub mod Numbers
pub mod Rows
pub mod Cleared
pub mod Settled
