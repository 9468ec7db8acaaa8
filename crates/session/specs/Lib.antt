-- The definitions that the contracts of `session` cite.
pub mod Edited
pub mod Refused
pub mod Session
pub mod Answer
pub mod Demand3
