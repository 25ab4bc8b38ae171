-- Laws of the list and of its cases' answers.
pub mod Agreements
pub mod Places
