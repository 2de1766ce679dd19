pub mod Marks
pub mod Functions
pub mod Faults
pub mod Refused
pub mod Reading
pub mod Fronts
