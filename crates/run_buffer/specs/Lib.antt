pub mod Step
pub mod Progress
pub mod Rest
