pub mod History
pub mod Ranges
pub mod Ledger
pub mod Cases
