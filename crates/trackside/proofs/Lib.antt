pub mod Pages
pub mod Pictures
pub mod PlantLaws
pub mod Plants
pub mod Rows
pub mod Settings
