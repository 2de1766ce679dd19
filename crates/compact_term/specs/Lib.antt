pub mod Spelling
pub mod Reading
pub mod Operand
pub mod Canonical
