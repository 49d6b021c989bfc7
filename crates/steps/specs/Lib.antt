-- The calls on one endpoint, in reading order.
pub mod Frames
pub mod Calls
pub mod Deliveries
pub mod Steps
pub mod Says
pub mod Laws
pub mod Values
