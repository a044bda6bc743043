pub mod Mastering
pub mod Recovery
