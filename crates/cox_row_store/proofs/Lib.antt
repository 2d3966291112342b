pub mod OneMore
pub mod Ended
pub mod TakenRows
