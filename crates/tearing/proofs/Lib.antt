-- The laws of orders and what they tear. Callers cite `Chosen` (what the best order is), `Total` (the bound on the weights) and `Settled`.
pub mod Chosen
pub mod Total
pub mod Settled
pub mod Lists
pub mod Torn
pub mod Weight
pub mod Computed
pub mod Bits
pub mod Steps
pub mod Halves
pub mod Between
pub mod Lowest
pub mod Filled
