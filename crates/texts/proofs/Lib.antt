pub mod Decimals
pub mod Counts
pub mod Cutting
pub mod Agreement
pub mod Writing
pub mod Lengths
pub mod Codes
