pub mod DecimalLaws
pub mod WroteLaws
pub mod NumberLaws
pub mod FileLaws
pub mod TextLaws
