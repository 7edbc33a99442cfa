pub mod Reporting
pub mod Demand
pub mod Cases
