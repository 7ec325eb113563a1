pub mod PicksByRow
pub mod OnePicking
pub mod OrdersAhead
pub mod AnyPicks
pub mod GivenBatches
pub mod Written
