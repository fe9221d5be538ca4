pub mod Scan
pub mod Safe
pub mod Found
pub mod Uploaded
pub mod Left
pub mod ItHappens
pub mod CommitKeeps
