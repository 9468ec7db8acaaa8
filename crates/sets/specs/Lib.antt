-- The definitions that the contracts of `sets` and of the crates above it cite.
pub mod Sets
