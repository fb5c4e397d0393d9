pub mod Level
pub mod Report
pub mod Table
