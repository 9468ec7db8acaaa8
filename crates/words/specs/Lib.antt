-- The definitions that the contracts of `words` and of the crates above it cite.
pub mod Words
