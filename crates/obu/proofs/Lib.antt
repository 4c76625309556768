pub mod ObuLaws
pub mod LengthLaws
pub mod PlaceLaws
pub mod UnitLaws
pub mod WalkLaws
pub mod WriteLaws
