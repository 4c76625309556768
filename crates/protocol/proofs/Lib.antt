pub mod AnswerLaws
pub mod ToldLaws
pub mod TextLaws
pub mod TypedLaws
pub mod DecodeLaws
pub mod KindLaws
pub mod FieldLaws
pub mod PrintLaws
