-- The cases that are proved, in reading order; last the whole table.
pub mod Cases
pub mod ErrorRecords
pub mod Sessions
pub mod Measurements
pub mod Table
