pub mod Kinds
pub mod Premises
pub mod Courses
pub mod Demand
