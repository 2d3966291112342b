pub mod Known
pub mod Taking
pub mod LineKeeping
pub mod Showing
pub mod Telling
pub mod Memory
