pub mod Bytes
pub mod Fitting
pub mod Spelled
pub mod Frames
pub mod Ends
pub mod Parsed
