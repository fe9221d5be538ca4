pub mod Write
pub mod Lent
pub mod OnRow
