pub mod CheckLaws
pub mod FirstLaws
pub mod NameLaws
