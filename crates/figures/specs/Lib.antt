pub mod Line
pub mod Reading
