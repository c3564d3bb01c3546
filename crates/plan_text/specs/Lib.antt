pub mod ByteWords
pub mod ByteWordLaws
pub mod SignedLaws
pub mod Lines
pub mod PinnedLines
pub mod LineLaws
pub mod PushLaws
