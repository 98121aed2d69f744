-- The machine follows the course of every ticket.
pub mod Following
pub mod Running
pub mod Statements
pub mod Values
