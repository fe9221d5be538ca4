-- The scan that is committed under a name: what leaves it alone, and what shows it.
pub mod Uploaded
pub mod Left
