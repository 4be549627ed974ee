pub mod Challenge
pub mod Response
