pub mod Tables
pub mod Moving
pub mod Locals
