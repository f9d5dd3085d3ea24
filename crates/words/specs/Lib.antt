-- What the contracts cite.
pub mod Fronts
pub mod Numerals
pub mod Words
