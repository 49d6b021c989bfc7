-- What error records say changes nothing but what carries them: records, one connection, tables, every pair of runs, an
-- example.
pub mod Records
pub mod Connection
pub mod Tables
pub mod NonInterference
pub mod Example
