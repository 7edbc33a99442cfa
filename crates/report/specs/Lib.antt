pub mod Sending
pub mod Taking
pub mod Counting
pub mod Worked
