pub mod Fields
pub mod EntryText
pub mod Reading
pub mod Lengths
pub mod Meaning
pub mod Laws
pub mod Examples
