pub mod Refusals
pub mod Numbers
pub mod Cuts
pub mod Fields
pub mod Lines
pub mod Texts
pub mod Written
pub mod Agreement
