pub mod Held
pub mod Layers
pub mod Marks
pub mod Frames
