-- Call lists as text: the answers as they are written, the bounds on ages, then the lines as they are read.
pub mod Printing
pub mod Bounds
pub mod Lines
pub mod Inputs
pub mod Reading
pub mod Calls
