pub mod Freed
pub mod Gave
pub mod Moved
pub mod Slotted
pub mod Told
