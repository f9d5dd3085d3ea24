pub mod Answers
pub mod Asking
pub mod MainTheorem
pub mod Opening
pub mod Placed
pub mod Soundness
