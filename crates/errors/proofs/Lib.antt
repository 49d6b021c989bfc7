-- Laws that serve several functions, and the round trip.
pub mod Days
pub mod Digits
pub mod Details
pub mod Ranges
pub mod Put
pub mod Written
pub mod There
pub mod Back
pub mod ReadBack
