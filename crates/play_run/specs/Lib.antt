pub mod Sums
pub mod Play
