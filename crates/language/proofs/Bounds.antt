-- How long a sheet's steps and its courses are, and how large the parts of its steps.
pub mod Sizes
pub mod Courses
pub mod Numbers
pub mod Operands
pub mod Bounds
