pub mod WayLemmas
pub mod LevelLemmas
pub mod SpreadLemmas
pub mod SearchLemmas
pub mod RowLemmas
pub mod PortLemmas
pub mod AddedWays
