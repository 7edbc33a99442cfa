pub mod BitsLaws
pub mod CrcLaws
pub mod LinearLaws
