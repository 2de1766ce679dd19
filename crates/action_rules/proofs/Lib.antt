pub mod Classes
pub mod Passing
pub mod Registers
pub mod Slotwise
