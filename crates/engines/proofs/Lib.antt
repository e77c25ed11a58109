pub mod CardRuns
pub mod LogFilled
pub mod LogMade
pub mod LogNoted
pub mod LogReach
pub mod LogShape
pub mod LogTarget
pub mod Plain
