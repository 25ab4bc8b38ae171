-- Laws of the hash, of the slot table, of the keys of records, and of the targets.
pub mod Hashing
pub mod Slots
pub mod Keyed
pub mod Targets
