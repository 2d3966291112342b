pub mod Limits
pub mod LargeMembers
pub mod Faults
pub mod TargetOf
pub mod Prints
pub mod Underway
pub mod Counted
