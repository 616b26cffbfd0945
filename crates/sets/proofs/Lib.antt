pub mod BitLaws
pub mod SortedLaws
pub mod MemberLaws
pub mod Ranges
