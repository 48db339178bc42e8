pub mod FileWorks
pub mod Working
pub mod Holding
pub mod Leaving
pub mod Performing
