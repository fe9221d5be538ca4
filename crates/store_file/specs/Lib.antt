pub mod Messages
pub mod Saved
pub mod Sizes
pub mod Loaded
pub mod Storable
pub mod Scans
pub mod ScanLaws
