-- The definitions that the contracts of `planner` and of the crates above it cite.
pub mod PlanTables
pub mod Links
pub mod Plan
pub mod Tables
pub mod Image
pub mod Answer
pub mod Part
pub mod Demand2
pub mod Exactly
