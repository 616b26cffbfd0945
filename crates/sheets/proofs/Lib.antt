pub mod Model
pub mod Lines
pub mod Validity
pub mod Filling
