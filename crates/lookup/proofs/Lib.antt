-- Laws of a set's layout and order, of what the reader answers, of the symbols that a member defines, and of the lookup by numbers.
pub mod Laying
pub mod Refusing
pub mod Saying
pub mod Ordering
pub mod Defining
pub mod Entering
pub mod Numbering
