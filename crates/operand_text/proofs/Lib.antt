pub mod Plains
pub mod Lists
pub mod Operands
pub mod Words
pub mod Lengths
