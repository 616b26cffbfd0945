pub mod Access
pub mod Evaluation
