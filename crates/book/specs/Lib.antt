pub mod Refusals
pub mod Books
pub mod Guards
pub mod Rules
