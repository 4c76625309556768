pub mod PassedLaws
pub mod PartLaws
pub mod MeasureLaws
pub mod FillLaws
pub mod SplitLaws
pub mod JoinLaws
pub mod WriteLaws
