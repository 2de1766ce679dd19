pub mod Shapes
pub mod AtomSpelling
pub mod EntrySpelling
pub mod Written
