-- The numbers of the import enums, and the machines of the table.
pub mod Import
pub mod Rows
pub mod Machines
