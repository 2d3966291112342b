pub mod Edges
pub mod Listing
pub mod NumberedEdges
pub mod Flat
pub mod Building
