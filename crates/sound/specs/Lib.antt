pub mod Card
pub mod BeatLaws
