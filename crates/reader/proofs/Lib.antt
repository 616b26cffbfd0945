pub mod Copies
pub mod Rows
pub mod Filled
