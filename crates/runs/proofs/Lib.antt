-- What theorems over lists of steps share: tables, loading, which connection a call reaches.
pub mod Tables
pub mod Loaded
pub mod Idle
pub mod Reaching
