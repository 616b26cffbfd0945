pub mod Operators
pub mod Holding
pub mod Rows
pub mod Moves
pub mod Sheets
pub mod Model
pub mod Fitting
pub mod Fits
