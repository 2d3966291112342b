pub mod Points
pub mod Needs
pub mod EventCases
pub mod Runs
pub mod EventLaws
pub mod Marks
