pub mod AnswerText
pub mod MemberText
