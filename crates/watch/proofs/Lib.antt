pub mod Alone
pub mod Blank
pub mod Calls
pub mod Silent
