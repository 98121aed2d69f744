pub mod Hex
pub mod Forms
pub mod Lines
pub mod Weighbridge
pub mod Refused
pub mod Sheets
pub mod Calls
pub mod Table
