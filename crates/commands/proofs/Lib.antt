pub mod Below
pub mod Crowds
pub mod Landing
pub mod Lines
pub mod Outputs
pub mod Returned
pub mod Turns
mod Whole
