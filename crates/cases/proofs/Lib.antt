-- The worked cases, proved: `Paper` says that every row of the table holds. `Weights` is on the way to what the functions promise.
pub mod Paper
mod Weights
