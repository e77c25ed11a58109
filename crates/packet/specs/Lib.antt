pub mod Packets
pub mod Told
pub mod Laws
pub mod Judging
