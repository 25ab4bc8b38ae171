-- Laws of the name rules, by subject.
pub mod BuiltNames
pub mod Renamings
pub mod NameTypes
pub mod DllNames
pub mod Manglings
