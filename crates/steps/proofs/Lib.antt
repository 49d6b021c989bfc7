-- Laws that serve several functions, and the laws of the calls.
pub mod Copies
pub mod Words
pub mod Dispatch
pub mod Firsts
pub mod Handed
pub mod Left
pub mod Outcomes
pub mod Shows
pub mod Whole
pub mod Keeps
pub mod Quiet
pub mod Carried
pub mod Dones
pub mod Counts
pub mod CallLaws
pub mod Values
pub mod HandedKept
