pub mod Joins
pub mod Slotwise
