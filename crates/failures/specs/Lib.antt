pub mod Failures
pub mod Places
