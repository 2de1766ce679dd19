pub mod Causes
pub mod Known
pub mod Listed
pub mod Reading
pub mod Script
pub mod Store
pub mod System
pub mod Writing
