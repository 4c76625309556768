pub mod RepeatLaws
pub mod FlagLaws
pub mod TurnsLaws
pub mod NearLaws
pub mod LocalLaws
pub mod EndLaws
