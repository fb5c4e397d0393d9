pub mod Clause
pub mod Level
pub mod Status
pub mod Worked
