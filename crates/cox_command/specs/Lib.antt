pub mod RefusalNumber
pub mod CommandWord
pub mod LineRefusal
pub mod CommandReading
pub mod Generated
pub mod BlockLines
pub mod ParseContract
