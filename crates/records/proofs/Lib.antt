-- The inverse of records and endpoints.
pub mod Records
