pub mod Fill
pub mod Good
pub mod Laws
pub mod Machine
pub mod Parts
