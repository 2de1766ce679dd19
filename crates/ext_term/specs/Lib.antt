pub mod Name
pub mod Integer
pub mod Spelling
pub mod Reading
pub mod Text
pub mod Writing
