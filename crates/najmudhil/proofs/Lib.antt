-- The laws of the step over bytes: `Settled` (two results that the statement allows are equal), `Codes` (what is returned, exactly when),
-- `Bound` (Moved comes at most as often as the limit says), `Record` (whose bytes the record holds after Moved).
pub mod Patterns
pub mod Lent
pub mod Codes
pub mod Bound
pub mod Record
pub mod Settled
