pub mod Blocks
pub mod Carried
