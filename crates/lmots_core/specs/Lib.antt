pub mod Parameters
pub mod Chains
pub mod Lanes
pub mod Standing
