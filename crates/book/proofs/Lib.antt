pub mod Tries
pub mod Guarded
pub mod Changed
