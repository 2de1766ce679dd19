pub mod Lines
pub mod Comments
pub mod Reading
pub mod Listing
pub mod Listable
