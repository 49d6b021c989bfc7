-- Steps on a gateway and the bytes between gateways, in reading order.
pub mod Steps
pub mod Bus
