pub mod Readers
pub mod RowFields
pub mod Reading
