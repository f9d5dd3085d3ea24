-- Lemmas that the proofs share.
pub mod BelowLaws
pub mod SharingLaws
