pub mod FlashAfter
pub mod StoreAfter
pub mod OpenAfter
pub mod Names
pub mod SweepNext
