pub mod Merging
pub mod FlashPromise
pub mod Fits
pub mod Refusals
