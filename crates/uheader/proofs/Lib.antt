pub mod WithinLaws
pub mod ReadingLaws
pub mod GivesLaws
pub mod AgreeLaws
pub mod KeyLaws
pub mod RuleLaws
