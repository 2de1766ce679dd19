pub mod Operand
pub mod Reading
pub mod Listed
pub mod Words
