pub mod Maps
pub mod Shelves
pub mod OneState
pub mod Recalled
