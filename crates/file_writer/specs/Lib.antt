pub mod Pens
pub mod Parts
pub mod Writing
pub mod Fails
pub mod Steps
pub mod Taken
