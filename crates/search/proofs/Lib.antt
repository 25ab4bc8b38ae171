-- Laws of the search.
pub mod Searches
