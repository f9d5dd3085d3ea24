pub mod BehindLaws
pub mod GrowingLaws
