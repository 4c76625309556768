pub mod LimitedLaws
pub mod ReadLaws
pub mod PointLaws
pub mod WithinLaws
pub mod SupportLaws
pub mod TimedLaws
pub mod AgreeLaws
pub mod MonoLaws
