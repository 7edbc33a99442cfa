pub mod Done
pub mod Tested
pub mod Answers
pub mod Reached
pub mod Does
pub mod Identical
pub mod Contracts
pub mod Determined
