pub mod ByteWordLaws
pub mod DigitLaws
pub mod LineLaws
pub mod PinnedLines
pub mod PushLaws
pub mod SignedLaws
pub mod WordByteLaws
