-- The definitions that the contract of `tearing` and its laws cite.
pub mod Order
pub mod Weight
pub mod Best
pub mod Row
pub mod Table
pub mod Answer
