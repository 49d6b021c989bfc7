-- Bytes and words, in reading order.
pub mod Bytes
pub mod Words
pub mod Output
