pub mod Bytes
pub mod Words
pub mod Written
pub mod Numbers
pub mod Lines
pub mod Printed
