-- What the calls are made of, and what they come to.
pub mod InMemory
pub mod BodyPart
pub mod OwnStep
pub mod Lands
pub mod Stores
pub mod Follows
pub mod Numbers
