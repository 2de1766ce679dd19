pub mod FrontRead
pub mod KnownBytes
pub mod LeftOver
pub mod Sent
