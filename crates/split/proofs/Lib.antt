pub mod Counting
pub mod Judging
pub mod Headers
pub mod Cutting
pub mod Paging
pub mod Steps
pub mod PartLaws
pub mod PartsReadBack
