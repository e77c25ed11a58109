pub mod Demands
pub mod RefusedInPlace
pub mod Refusing
pub mod Tightness
