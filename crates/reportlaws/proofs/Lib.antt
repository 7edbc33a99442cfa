pub mod Cases
pub mod Blocks
pub mod Answers
pub mod Does
pub mod Determined
pub mod Identical
pub mod Contracts
