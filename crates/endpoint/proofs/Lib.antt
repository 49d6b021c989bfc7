-- Laws that serve several functions.
pub mod Entries
pub mod TCode
