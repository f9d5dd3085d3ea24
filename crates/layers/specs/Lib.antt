pub mod Growing
pub mod Layers
pub mod Owing
pub mod Tables
pub mod Views
