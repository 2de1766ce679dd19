pub mod File
pub mod Reading
pub mod Canonical
pub mod Strip
pub mod Comparison
pub mod Name
pub mod Module
pub mod Opening
