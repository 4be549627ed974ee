pub mod Ends
pub mod Format
pub mod Judged
pub mod Kept
pub mod LeaseFile
pub mod Leases
pub mod Stops
