pub mod Chains
pub mod Fresh
pub mod Given
pub mod Refuted
pub mod Unique
