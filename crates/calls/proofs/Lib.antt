pub mod ByPage
pub mod Demand
pub mod Histories
