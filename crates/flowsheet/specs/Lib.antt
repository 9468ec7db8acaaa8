-- The definitions that the contracts of `flowsheet` and of the crates above it cite.
pub mod Tables
pub mod Sheet
pub mod Answers
pub mod Image
pub mod Exactly
pub mod Good
pub mod Written
