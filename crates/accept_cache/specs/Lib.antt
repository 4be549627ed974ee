pub mod Keys
pub mod Recency
pub mod Accepted
pub mod Kept
pub mod StandsFor
