pub mod NumbersLaws
pub mod WordsLaws
pub mod FilledLaws
pub mod AnswersLaws
