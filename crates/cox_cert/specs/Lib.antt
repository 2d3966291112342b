pub mod LineReading
pub mod Causes
pub mod Checks
pub mod Drafts
pub mod Collected
pub mod Judgements
pub mod Verdicts
pub mod Unhindered
