pub mod Steps
pub mod Operands
pub mod Rows
pub mod Back
pub mod SameText
