-- The cases that are proved.
pub mod Cases
