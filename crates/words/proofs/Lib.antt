-- Laws of bytes, words and outputs.
pub mod Parts
pub mod Alike
pub mod Words
pub mod Put
pub mod Search
