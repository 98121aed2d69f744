-- The tokens of a text are exactly its bytes that are not blank.
pub mod Stepping
pub mod Lexing
pub mod Closing
