pub mod InverseRow
pub mod Longest
pub mod NumberedInverses
pub mod InverseFaults
pub mod Intervals
pub mod WholeGroups
