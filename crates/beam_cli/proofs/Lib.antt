pub mod Loads
pub mod Makes
pub mod Messages
pub mod Parts
pub mod Printed
pub mod RoundTrips
pub mod Accepted
pub mod Behind
