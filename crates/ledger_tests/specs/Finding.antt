-- What the contracts cite.
use Rattle.std.specs.Prelude.{◌≡◌, ℕ, ◌≤◌, Some, Option}

-- A place was found, and it is p or a lower one.
abbrev pub FoundBy : Option ℕ → ℕ → Type 0
FoundBy r p = (q : ℕ) × (r ≡ Some q) × (q ≤ p)
