pub mod Answered
pub mod Clause
pub mod During
pub mod Refuted
pub mod Unique
pub mod Worked
