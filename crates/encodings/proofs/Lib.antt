pub mod Digits
pub mod Backward
pub mod Decimal
pub mod Zoned
pub mod Packed
pub mod Layouts
pub mod Binary
pub mod Shipped
