pub mod Line
pub mod Unbroken
pub mod Tokens
pub mod Number
