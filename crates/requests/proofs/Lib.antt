-- The count of a start's requests.
pub mod Requests
