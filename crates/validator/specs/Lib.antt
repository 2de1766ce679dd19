pub mod Reported
pub mod Counted
pub mod Text
