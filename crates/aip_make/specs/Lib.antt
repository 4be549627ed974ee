pub mod Workload
pub mod Summaries
pub mod Ends
pub mod Making
pub mod Schedules
