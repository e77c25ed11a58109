pub mod Refusing
pub mod RefusedInPlace
pub mod Tightness
pub mod Demands
