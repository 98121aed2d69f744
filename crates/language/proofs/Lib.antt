pub mod Tokens
pub mod Acceptance
pub mod Refusals
pub mod Following
pub mod Bounds
pub mod Tickets
pub mod Rounded
