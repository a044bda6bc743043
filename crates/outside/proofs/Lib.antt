pub mod Texts
pub mod Known
pub mod Deciding
pub mod NamesApart
pub mod Returned
