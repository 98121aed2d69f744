-- What follows the refused token plays no part, and every text is accepted or refused.
pub mod Places
pub mod Prefixes
pub mod Stays
