pub mod Fields
pub mod Reading
pub mod Showing
pub mod PacketLaws
