pub mod Faults
pub mod Files
pub mod Listing
pub mod Next
pub mod Turns
