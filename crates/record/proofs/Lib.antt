pub mod Results
pub mod Gave
pub mod Answers
pub mod Through
pub mod Versions
pub mod Identical
