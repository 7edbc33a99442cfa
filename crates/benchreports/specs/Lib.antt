pub mod Called
pub mod Printed
pub mod Told
