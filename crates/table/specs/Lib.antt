-- What the contracts cite.
pub mod FactLists
pub mod Rules
