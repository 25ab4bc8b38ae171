-- Laws of the rows, and of their table.
pub mod Rows
pub mod Table
