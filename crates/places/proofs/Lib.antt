pub mod ReachLaws
pub mod UnderLaws
