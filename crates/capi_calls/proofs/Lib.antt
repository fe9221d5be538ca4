pub mod Laws
pub mod TrayLaws
pub mod Zeros
