pub mod FourLanes
pub mod BytesOfWords
pub mod OneBlock
