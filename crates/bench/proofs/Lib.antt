pub mod BoardLaws
pub mod ScanLaws
