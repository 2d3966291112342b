pub mod Knowledge
pub mod Plays
pub mod Rule
pub mod Seats
pub mod Tables
pub mod Events
