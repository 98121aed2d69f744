pub mod Ledger
pub mod Runs
pub mod Laws
pub mod Standing
pub mod Numbers
