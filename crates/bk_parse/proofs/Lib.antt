pub mod Options
pub mod Numerals
pub mod Signed
pub mod Parsing
pub mod HexPairs
pub mod HexRows
pub mod Splitting
pub mod Passing
