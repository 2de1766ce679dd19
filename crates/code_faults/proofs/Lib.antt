pub mod Labelled
pub mod Raising
pub mod Soundness
