pub mod BackFields
pub mod BackOpening
pub mod BackPoints
pub mod BackCoding
pub mod BackSequence
pub mod EmitSteps
