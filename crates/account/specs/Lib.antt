pub mod Account
pub mod Weighing
