-- The list of answers.
pub mod Kept
pub mod Cases
