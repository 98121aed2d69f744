-- Dropping and rounding come to what they should.
pub mod Quotients
