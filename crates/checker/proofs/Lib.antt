pub mod AccessParts
pub mod Evaluated
pub mod SameAccess
