pub mod OrderLemmas
pub mod EntryLemmas
pub mod CountLemmas
pub mod KeyLemmas
pub mod Laws
