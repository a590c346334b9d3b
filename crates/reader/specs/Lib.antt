pub mod Reads
pub mod Refusals
pub mod Text
pub mod Views
pub mod Words
