pub mod Places
pub mod Stores
pub mod Taken
