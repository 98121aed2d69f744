pub mod Formats
pub mod Signs
