pub mod Ranks
pub mod OneMoreEdge
pub mod EdgeValues
pub mod Built
pub mod EdgesOfMembers
pub mod Listings
