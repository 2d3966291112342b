pub mod Coordinates
pub mod RootLists
pub mod Closure
pub mod Moves
