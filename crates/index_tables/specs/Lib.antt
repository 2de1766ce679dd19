pub mod Atoms
pub mod Entries
pub mod Shape
pub mod Reading
pub mod Text
pub mod Canonical
pub mod Refusal
