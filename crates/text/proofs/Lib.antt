pub mod LineLaws
pub mod NumberLaws
pub mod PrintLaws
pub mod ReadBack
pub mod WordLaws
