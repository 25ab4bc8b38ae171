-- Laws of the members' parts, by subject.
pub mod Runs
pub mod Sizes
pub mod NullNames
