pub mod Defaulted
pub mod FaultFree
pub mod FullRows
pub mod LineCuts
pub mod TaskFaults
pub mod TaskNames
pub mod TaskValues
