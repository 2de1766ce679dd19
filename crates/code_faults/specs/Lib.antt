pub mod Naming
pub mod Ending
pub mod Operands
pub mod Faults
pub mod Registers
