-- Lemmas that the proofs share.
pub mod FitLaws
pub mod MissingLaws
pub mod OpeningLaws
pub mod PerformLaws
pub mod SteppedLaws
pub mod WritingLaws
