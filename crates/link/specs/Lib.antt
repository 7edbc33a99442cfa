pub mod Link
pub mod Demand
pub mod Acknowledged
pub mod LogFacts
pub mod Rule
pub mod Tight
pub mod Cases
