pub mod Twice
pub mod Retry
pub mod Retries
