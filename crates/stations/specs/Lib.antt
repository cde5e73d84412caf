pub mod Stations
pub mod Records
pub mod Costs
