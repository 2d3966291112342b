pub mod Ring
pub mod PushedItems
pub mod RangeFilters
