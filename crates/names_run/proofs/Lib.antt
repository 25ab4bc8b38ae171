-- Laws of the table's rows.
pub mod Verdicts
