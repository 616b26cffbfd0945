pub mod Member
pub mod Bits
pub mod Sorted
pub mod Bounds
