pub mod Beyond
pub mod Holding
pub mod RowsFaults
pub mod CountedRows
pub mod Ensured
