pub mod Blocks
pub mod Layout
pub mod Changes
pub mod Laws
pub mod Shapes
pub mod OctetLaws
pub mod Loops
