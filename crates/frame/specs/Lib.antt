pub mod Frame
pub mod Distance
pub mod Check
pub mod Reason
pub mod FrameCases
