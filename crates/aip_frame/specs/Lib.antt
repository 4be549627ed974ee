pub mod Frame
pub mod Form
pub mod Laws
