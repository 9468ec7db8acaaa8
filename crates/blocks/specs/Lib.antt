pub mod Links
pub mod Reach
pub mod Blocks
pub mod Order
pub mod Rule4
