pub mod Shape
pub mod Keys
pub mod Accepting
