pub mod Asked
pub mod Fields
pub mod Lists
