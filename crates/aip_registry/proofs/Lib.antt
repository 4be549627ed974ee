pub mod Order
pub mod Entries
pub mod Newest
pub mod Judged
pub mod Spelled
