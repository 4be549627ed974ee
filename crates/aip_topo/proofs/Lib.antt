mod Distinct
mod Accepted
mod Indexing
mod LineLaws
mod Placing
mod Keys
mod Shown
mod Running
mod Turns
mod Meeting
pub mod Soundness
mod CanonNodes
mod Canon
mod Decided
mod Said
