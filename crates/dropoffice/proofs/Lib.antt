pub mod Crashing
pub mod Ended
pub mod Ends
mod Fresh
pub mod Less
