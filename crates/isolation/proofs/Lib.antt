-- A connection of a gateway beside the others: what one call changes, tables as loaded, every pair of runs, an example.
pub mod Changes
pub mod Tables
pub mod Isolation
pub mod Example
