pub mod PacketLaws
pub mod ReadyLaws
pub mod TakeLaws
pub mod CallLaws
