-- What the answers of the name rules say, in the words of format's definitions.
pub mod Built
pub mod Rename
pub mod Types
pub mod Dll
pub mod Mangler
