-- A connection of a gateway beside the others.
pub mod Isolation
