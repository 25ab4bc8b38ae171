-- Laws of the members, by subject.
pub mod Cases
pub mod Sizes
pub mod Extending
