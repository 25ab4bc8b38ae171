pub mod Choices
pub mod Publics
pub mod Answering
pub mod Accepting
