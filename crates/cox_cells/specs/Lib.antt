pub mod Cells
pub mod NumberedCells
pub mod NeighbourLists
