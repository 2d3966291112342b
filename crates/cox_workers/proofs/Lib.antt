pub mod Guards
pub mod SeatSteps
pub mod Working
pub mod WaitingOrder
pub mod NeedsByNumber
pub mod Growing
pub mod OwnPlaces
pub mod GivenRows
