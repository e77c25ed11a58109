pub mod Below
pub mod BelowLaws
pub mod Slots
pub mod RankLaws
pub mod FrontLaws
pub mod Found
pub mod SearchLaws
pub mod Order
