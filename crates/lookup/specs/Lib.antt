-- A set's members by their numbers, and the lookup over them.
pub mod Numbered
