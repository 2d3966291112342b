pub mod Needs
pub mod Kept
pub mod KeptBetween
pub mod LentRows
pub mod Faults
pub mod GroupSize
