pub mod Beginnings
pub mod Masters
pub mod Reopened
