-- Laws that serve several functions, the range of a line, and what is printed is read back.
pub mod Pieces
pub mod Numbers
pub mod Filled
pub mod Limits
pub mod NumbersBack
pub mod BytesBack
pub mod Every
