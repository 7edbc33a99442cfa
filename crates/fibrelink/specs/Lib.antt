pub mod Link
pub mod Rule
pub mod Demand
pub mod Status
pub mod LogFacts
pub mod Tight
pub mod Cases
pub mod Means
