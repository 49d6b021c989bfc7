-- Records in memory and the endpoints that they are.
pub mod Records
