pub mod KeepLaws
pub mod StepLaws
