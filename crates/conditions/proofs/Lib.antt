pub mod FirstLaws
pub mod NamedLaws
