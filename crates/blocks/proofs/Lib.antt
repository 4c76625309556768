pub mod NumberLaws
pub mod BlockLaws
pub mod LayLaws
pub mod ListLaws
pub mod CountLaws
