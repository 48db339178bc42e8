pub mod Formats
pub mod Lines
pub mod Portions
pub mod Outlines
pub mod Sorting
pub mod Opened
pub mod Walking
pub mod Listing
