pub mod Named
pub mod Unblocked
