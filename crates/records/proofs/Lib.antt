-- Laws of section numbers and of the records' fields; that a record's reader undoes its writer.
pub mod Words
pub mod Fields
pub mod ReadBack
