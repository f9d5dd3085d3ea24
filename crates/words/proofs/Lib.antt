-- Lemmas that the proofs share.
pub mod DigitLaws
pub mod NumeralLaws
pub mod WordLaws
