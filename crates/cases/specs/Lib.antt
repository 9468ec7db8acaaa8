-- The definitions that the contracts and the proved cases of `cases` go by.
pub mod Images
pub mod Orders
pub mod Paper
