-- Lemmas that the proofs share.
pub mod HeadLaws
