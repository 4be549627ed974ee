pub mod Blocks
pub mod Steps
pub mod Sizes
pub mod Joined
pub mod Accepted
pub mod PaddedBlock
pub mod Standing
