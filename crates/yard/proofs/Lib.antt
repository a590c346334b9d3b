pub mod Finds
pub mod Looks
pub mod Records
