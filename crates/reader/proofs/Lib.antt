-- Laws of what is admitted, and of what is answered.
pub mod Admitting
pub mod Answering
pub mod Guessing
