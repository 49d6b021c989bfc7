-- Demand 3 for gateways: the bytes between them, one call, every list of calls.
pub mod Logs
pub mod Handed
pub mod OneCall
pub mod EachCall
pub mod Lift
pub mod AheadProof
pub mod Example
