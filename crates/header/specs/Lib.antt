pub mod SequenceRules
pub mod SequenceOpening
pub mod SequencePoints
pub mod SequenceCoding
pub mod Sequence
pub mod Support
pub mod Timed
