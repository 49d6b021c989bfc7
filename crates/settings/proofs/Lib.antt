-- What a right list tells.
pub mod Lists
mod Below
