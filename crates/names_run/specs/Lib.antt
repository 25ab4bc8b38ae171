-- What a row of the table says.
pub mod Told
