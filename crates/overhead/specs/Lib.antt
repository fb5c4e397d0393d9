pub mod Overhead
pub mod Bei
