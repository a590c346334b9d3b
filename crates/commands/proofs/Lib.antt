pub mod Parting
pub mod Reading
pub mod Splitting
