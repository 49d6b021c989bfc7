-- What each call and each frame leaves of an endpoint, in reading order.
pub mod ByCall
pub mod ByFrame
