pub mod Joining
pub mod Lexicons
