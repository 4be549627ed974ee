pub mod Unread
pub mod Topologies
pub mod Ends
pub mod Judged
pub mod Schedules
pub mod Runs
pub mod Turns
