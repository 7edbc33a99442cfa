pub mod Good
pub mod Sending
pub mod Taking
pub mod Words
pub mod Names
pub mod Calls
pub mod Shape
pub mod Worked
