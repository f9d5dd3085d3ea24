-- Lemmas that the proofs share.
pub mod BookLaws
pub mod FirstLaws
