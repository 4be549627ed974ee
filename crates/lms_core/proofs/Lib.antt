mod Paths
mod Tables
pub mod Accepted
