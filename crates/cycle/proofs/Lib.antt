pub mod Parts
pub mod Cycles
pub mod Traces
pub mod Unique
pub mod Refuted
