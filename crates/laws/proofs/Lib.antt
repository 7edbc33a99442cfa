pub mod Bools
pub mod Lists
pub mod Pieces
pub mod AboveLaws
pub mod Decide
pub mod Stretch
