pub mod Naming
pub mod Ids
