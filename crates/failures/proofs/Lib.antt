pub mod FailureLaws
pub mod Finding
pub mod PlaceLaws
pub mod WordLaws
