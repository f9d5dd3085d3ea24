pub mod Faults
pub mod Playing
pub mod Texts
