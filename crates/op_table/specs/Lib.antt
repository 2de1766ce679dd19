pub mod Roles
pub mod Table
pub mod Instruction
pub mod Layouts
pub mod Planned
pub mod Planning
pub mod Rules
