pub mod Stretches
pub mod Taken
pub mod Carried
pub mod Asked
