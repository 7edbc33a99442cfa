pub mod Cases
pub mod More
