pub mod Record
pub mod Kept
pub mod Entries
