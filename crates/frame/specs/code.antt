pub mod RemovalFlag
