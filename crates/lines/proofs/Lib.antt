-- Lemmas that the proofs share.
pub mod LetterLaws
pub mod LineLaws
pub mod NumbersRead
pub mod SpellLaws
pub mod WriteLaws
