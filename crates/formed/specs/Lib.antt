pub mod Formed
pub mod Laws
pub mod Pieces
pub mod TestLaws
pub mod SlotLaws
