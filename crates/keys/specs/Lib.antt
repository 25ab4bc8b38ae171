-- The hash, the slot table, and the targets of aliases.
pub mod Hash
pub mod Slots
pub mod Targets
