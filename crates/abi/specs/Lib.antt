pub mod Tightness
