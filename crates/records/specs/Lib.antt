-- The records as bytes and in bytes.
pub mod Records
