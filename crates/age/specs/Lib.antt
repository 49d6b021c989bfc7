-- Two gateways and the bytes between them, in reading order.
pub mod Runs
pub mod Demand
