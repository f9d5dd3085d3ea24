-- Lemmas that the proofs share.
pub mod LineLaws
pub mod LoopLaws
pub mod MeaningLaws
