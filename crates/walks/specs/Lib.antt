pub mod Pen
pub mod Walk
