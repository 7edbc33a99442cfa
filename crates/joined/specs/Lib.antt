pub mod Joined
pub mod Rule
