pub mod Ground
pub mod Laws
pub mod Pages
pub mod PictureLaws
pub mod Pictures
pub mod Plants
pub mod Sights
