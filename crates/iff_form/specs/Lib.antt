pub mod Canonical
pub mod Chunk
pub mod Form
pub mod Kept
pub mod Reading
pub mod Refusal
pub mod Text
