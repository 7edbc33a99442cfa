pub mod Computed
pub mod Accesses
pub mod Pushing
pub mod Pulling
pub mod Kept
pub mod Hosting
pub mod Reported
