-- Runs of the parts of a layout, as the functions write them.
pub mod Runs
