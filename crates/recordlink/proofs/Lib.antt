pub mod Mirror
pub mod Demanded
pub mod Computed
