pub mod FinderLaws
pub mod SearchLaws
pub mod FaultLaws
pub mod Identical
