-- Demand 2 and the laws of the plan that the crates above cite: `Demand2` says what the plan is, `Parted` that its blocks part the units,
-- `TornStreams` what is torn and how much, `Inside` what a block's plan goes by, `Kept` what an edit leaves of the plan, `Tables` that its tables
-- tell its blocks, `Image` its bytes, `ScreenParts` what a screen is handed of it, `Exact` when each number of the table is given, `ShutOut` which
-- planners can't keep the promise. The others are on the way there.
pub mod Members
pub mod Found
pub mod Linked
pub mod Orders
pub mod Parted
pub mod TornStreams
pub mod Weighed
pub mod LeastOrder
pub mod OnlyPlan
pub mod Inside
pub mod Demand2
pub mod Kept
pub mod Tables
pub mod Append
pub mod Image
pub mod ScreenParts
pub mod Answers
pub mod Memory
pub mod SettledImage
pub mod SettledPlan
pub mod Exact
pub mod ShutOut
mod Spans
mod Turns
mod Ends
mod Sorting
