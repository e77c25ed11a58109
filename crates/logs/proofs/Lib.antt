pub mod EntryLaws
pub mod WalkLaws
pub mod SoundLaws
