pub mod Appending
pub mod Coding
pub mod Opening
pub mod Rows
pub mod Sized
pub mod Splitting
pub mod Tables
pub mod Versions
