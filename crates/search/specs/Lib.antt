pub mod Filled
pub mod Next
pub mod Rows
pub mod Stack
