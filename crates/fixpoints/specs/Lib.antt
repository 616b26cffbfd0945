pub mod Rounds
pub mod Searches
pub mod Witnesses
