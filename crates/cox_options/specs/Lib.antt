pub mod Command
pub mod Arguments
pub mod Found
pub mod OneOption
