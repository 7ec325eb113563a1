pub mod Steps
pub mod Tables
pub mod Counts
pub mod Cuts
pub mod KeptCuts
pub mod Prices
pub mod PricedVisits
