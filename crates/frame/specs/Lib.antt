-- Frames, in reading order.
pub mod Control
pub mod Reading
pub mod Writing
pub mod RoundTrip
