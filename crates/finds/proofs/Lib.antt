-- Laws of what is looked for.
pub mod Drawn
pub mod Bounds
pub mod Texts
