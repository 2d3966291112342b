pub mod SmallRoots
pub mod RootCounts
pub mod Elementary
