-- The laws of a session: `Held` what the test of one tells and what each call leaves, `Demand3` that edits keep the plan true and the other blocks
-- as they were, `ShutOut` which programs can't keep the promises of edits, `Settled` that two results that a statement allows are equal. The others
-- are on the way there.
pub mod Places
pub mod Refused
pub mod Edited
pub mod Answers
pub mod Held
pub mod Demand3
pub mod ShutOut
pub mod Settled
