pub mod BoxRows
pub mod Running
