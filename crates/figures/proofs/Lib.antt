pub mod Decimal
pub mod Padded
pub mod ReadsBack
