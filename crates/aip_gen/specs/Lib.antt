pub mod Draws
pub mod Network
pub mod Lines
