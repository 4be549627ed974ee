pub mod Texts
pub mod Marks
pub mod Answers
pub mod Judged
pub mod Lines
pub mod Turns
pub mod Laws
