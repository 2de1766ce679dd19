pub mod Chunks
pub mod Walk
pub mod Whole
pub mod Loop
pub mod Refusals
pub mod Payloads
pub mod Canon
pub mod Owned
