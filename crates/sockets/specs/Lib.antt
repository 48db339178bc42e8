pub mod Accepting
pub mod Doing
pub mod Listening
pub mod Moving
pub mod Telling
