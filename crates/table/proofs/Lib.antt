pub mod Closing
pub mod Pushes
pub mod Sizes
