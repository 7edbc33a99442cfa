pub mod Finder
pub mod Search
