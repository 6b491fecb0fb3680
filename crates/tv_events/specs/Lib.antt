pub mod Script
pub mod AnswerLines
