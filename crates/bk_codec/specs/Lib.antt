pub mod Reading
pub mod Spelling
pub mod Refusal
pub mod Exact
