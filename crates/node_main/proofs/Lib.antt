pub mod Finishing
pub mod OverAreas
pub mod Playing
pub mod Telling
