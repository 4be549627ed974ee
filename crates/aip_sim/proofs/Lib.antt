pub mod Turning
pub mod Running
pub mod Whole
pub mod NextLines
pub mod Promised
