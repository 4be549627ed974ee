pub mod MadeInputs
pub mod Feeds
pub mod RunsSo
pub mod Counting
pub mod Taking
pub mod Whole
