pub mod DumpLaws
pub mod NameLaws
pub mod SlotLaws
