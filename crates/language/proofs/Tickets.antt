-- What a ticket keeps while it is worked, and what faults bear.
pub mod Parts
pub mod Actions
pub mod Runs
pub mod Courses
pub mod Faults
pub mod Tickets
