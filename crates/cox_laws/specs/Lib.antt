pub mod Answered
pub mod BlockScripts
pub mod Limited
pub mod Unhindered
pub mod SameRuns
pub mod FirstScript
pub mod Examples
