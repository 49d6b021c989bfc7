-- Error records, in reading order.
pub mod Bcd
pub mod Calendar
pub mod Reading
pub mod Writing
pub mod RoundTrip
