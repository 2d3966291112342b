pub mod Shifts
pub mod PoolPrints
pub mod FoundPolynomials
pub mod NotedMus
pub mod LargeCoefficients
pub mod LargeFound
pub mod Finished
pub mod IdentityRow
