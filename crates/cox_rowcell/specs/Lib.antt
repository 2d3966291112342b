pub mod Place
pub mod RowFor
pub mod InCell
pub mod Guards
