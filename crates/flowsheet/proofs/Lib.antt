-- The laws of the flowsheet and its image that the crates above cite.
pub mod Places
pub mod First
pub mod Held
pub mod Exact
pub mod Good
pub mod Written
pub mod ReadBack
pub mod Told
pub mod Settled
pub mod Tables
mod Records
mod Parts
