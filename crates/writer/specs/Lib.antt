pub mod Render
pub mod Writing
