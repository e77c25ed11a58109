pub mod Shuffled
pub mod Others
