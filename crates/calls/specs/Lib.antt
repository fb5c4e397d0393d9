pub mod History
pub mod Words
pub mod Demand
pub mod ByPage
