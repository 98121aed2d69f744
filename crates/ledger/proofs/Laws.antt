-- Laws of every list of calls.
pub mod Effects
pub mod Lists
pub mod Changes
pub mod Refusals
pub mod Runs
pub mod Works
pub mod Standing
pub mod Bearing
