pub mod Store
pub mod Related
pub mod Kinds
pub mod States
pub mod Join
pub mod Ordered
