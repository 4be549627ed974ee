pub mod Early
pub mod Leases
pub mod Promised
pub mod RecordLists
pub mod Recorded
