pub mod Lengths
pub mod Clauses
pub mod TeamText
pub mod Words
pub mod Entries
