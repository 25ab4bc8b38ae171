-- What the reader answers for a member.
pub mod Answers
