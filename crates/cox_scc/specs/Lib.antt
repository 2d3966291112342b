pub mod Reach
pub mod Graph
pub mod Sorted
pub mod Visits
pub mod Walk
