pub mod Words
pub mod Letters
pub mod Table
pub mod Line
