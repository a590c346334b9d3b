pub mod Refusals
pub mod Rings
pub mod Lines
pub mod Orders
