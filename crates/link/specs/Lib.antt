-- Two endpoints and the frames between them, in reading order.
pub mod Clocks
pub mod Runs
pub mod Fresh
pub mod Ahead
