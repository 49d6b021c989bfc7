-- The settings list, in reading order.
pub mod Words
pub mod Lists
