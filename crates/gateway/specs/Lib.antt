-- The gateway, in reading order; last the parts of which its calls are made.
pub mod Tables
pub mod Loading
pub mod Calls
pub mod Exports
pub mod Numbers
pub mod Parts
