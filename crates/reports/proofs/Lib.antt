pub mod Lists
pub mod Figures
pub mod Demand
pub mod Sums
pub mod Reports
