pub mod Among
pub mod Answer
pub mod Bits
pub mod Bounded
pub mod Checks
pub mod Each
pub mod Over
pub mod Refusal
