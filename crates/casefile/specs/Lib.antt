pub mod Files
pub mod Layout
pub mod Numbers
pub mod Owing
pub mod Records
