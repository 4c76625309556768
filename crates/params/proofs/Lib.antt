pub mod SubexpLaws
pub mod SignLaws
