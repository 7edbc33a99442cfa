pub mod Bits
pub mod Crc
pub mod Published
