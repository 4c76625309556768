mod FieldNumberLaws
mod HeaderReadLaws
mod ToldObuLaws
