pub mod Pens
pub mod Imports
pub mod Records
