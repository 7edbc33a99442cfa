pub mod Record
pub mod Results
pub mod Cases
