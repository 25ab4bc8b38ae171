-- Members by what is given.
pub mod Members
