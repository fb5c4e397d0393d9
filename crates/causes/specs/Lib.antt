pub mod Causes
pub mod OneCause
