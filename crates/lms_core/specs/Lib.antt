pub mod Codes
pub mod Parameters
pub mod Table
pub mod Tree
pub mod Verify
