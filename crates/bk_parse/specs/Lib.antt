pub mod Inverse
pub mod Parts
pub mod Numbers
pub mod HexBytes
pub mod Answer
