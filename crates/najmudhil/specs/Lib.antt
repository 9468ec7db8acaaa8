-- The definitions that the contracts of what the C program calls cite.
pub mod Step
