mod Bytes
mod Fresh
mod Turns
mod Noting
mod Filed
mod Orders
mod Withheld
mod Obeys
mod Signed
pub mod Grown
pub mod Corresponds
pub mod Inputs
mod Standing
