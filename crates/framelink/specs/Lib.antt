pub mod Faults
pub mod Frames
pub mod Trains
pub mod Movements
pub mod Found
pub mod Standing
pub mod Views
pub mod LinkLaws
