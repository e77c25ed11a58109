pub mod CopyLaws
pub mod BeatLaws
