pub mod Freed
pub mod Tiers
pub mod Changes
pub mod Order
