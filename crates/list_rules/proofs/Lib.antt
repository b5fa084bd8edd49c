pub mod Laws
pub mod Links
pub mod Fill
pub mod Reasons
