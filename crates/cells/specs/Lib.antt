pub mod Cells
pub mod Handing
pub mod CellLaws
