-- What the answer of the search says, in the words of format's definitions.
pub mod Search
