pub mod Credentials
pub mod Moments
pub mod Days
pub mod Digests
