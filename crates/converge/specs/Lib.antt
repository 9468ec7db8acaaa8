pub mod Doubles
pub mod Answer
pub mod Value
pub mod Row
pub mod Promise
