pub mod Code
pub mod Generated
