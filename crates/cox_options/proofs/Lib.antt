pub mod Table
pub mod DefaultValue
pub mod Numbers
pub mod OneNumber
pub mod ParsedRows
pub mod Walked
pub mod EndOfWords
pub mod Taken
