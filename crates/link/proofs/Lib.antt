-- The age theorem: marks and arithmetic, the invariant, its steps.
pub mod Marks
pub mod Ages
pub mod Invariant
pub mod Kept
pub mod Bounds
pub mod Codes
pub mod Relation
pub mod Entries
pub mod Shown
pub mod AtMaster
pub mod AtSlave
pub mod Events
pub mod Ends
pub mod Sends
pub mod AgeProof
pub mod AheadProof
pub mod Example
