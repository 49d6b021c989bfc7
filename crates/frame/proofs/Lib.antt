-- Laws that serve several functions, and the round trip.
pub mod Lengths
pub mod Put
pub mod Written
pub mod Digits
pub mod There
pub mod Back
pub mod ReadBack
