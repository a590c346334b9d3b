pub mod Examples
pub mod Pieces
pub mod Telling
pub mod Writing
