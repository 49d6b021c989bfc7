-- One connection's end, in reading order.
pub mod Endpoint
pub mod Answers
pub mod Table
pub mod Due
pub mod Updates
pub mod Time
pub mod TCode
