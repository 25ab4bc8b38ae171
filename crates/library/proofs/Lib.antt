pub mod MemberSets
pub mod Resolving
