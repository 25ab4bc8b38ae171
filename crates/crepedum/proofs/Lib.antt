-- Laws of what crosses to other languages.
pub mod Fields
pub mod Finding
