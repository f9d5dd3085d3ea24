-- What the contracts cite.
pub mod Books
pub mod Firsts
