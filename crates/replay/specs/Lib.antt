pub mod AnswerLaws
pub mod RunLaws
