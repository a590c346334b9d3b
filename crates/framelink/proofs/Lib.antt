pub mod Movements
pub mod Standing
pub mod Trains
