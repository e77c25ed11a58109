pub mod Folds
pub mod Overwritten
pub mod Seats
pub mod Shuffled
pub mod Others
