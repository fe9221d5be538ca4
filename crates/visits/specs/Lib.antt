pub mod Visits
pub mod Table
