pub mod Guarded
pub mod RowsRead
pub mod Ready
pub mod SeatChanges
pub mod Filled
pub mod Families
