pub mod FlashAfter
pub mod Names
pub mod OpenAfter
pub mod StoreAfter
