pub mod PutFields
pub mod PutSequence
pub mod Emittable
