pub mod AreaText
pub mod Areas
pub mod Journaling
pub mod Staging
pub mod Closing
pub mod Opening
