pub mod NumberLaws
pub mod WalkLaws
pub mod Steps
pub mod Forms
pub mod Examples
pub mod Passed
pub mod Standing
pub mod FaultCodes
