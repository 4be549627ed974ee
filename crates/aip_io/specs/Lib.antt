pub mod Causes
pub mod Feeds
pub mod Lines
pub mod Memory
pub mod Shelf
pub mod Sink
