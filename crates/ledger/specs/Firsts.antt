-- The first row, from a place on, that is alike a given one.
use Rattle.std.specs.Prelude.{◌≡◌, ℕ, zero, suc, ◌<◌, ◌≤◌, Bool, true, cond, List, [], ◌∷◌, length, Some, None, Ok, Option}
use Rattle.std.specs.Option.{option_map}
use Rattle.rows.specs.Rows.{row_at}

module _ {A : Type 0} (alike : A → A → Bool) where
  -- The lowest place, at or after `from`, whose row is alike x.
  abbrev pub first_alike : List A → ℕ → A → Option ℕ
  first_alike [] from x = None
  first_alike (y ∷ ys) zero x = cond (alike y x) (Some 0) (option_map suc (first_alike ys zero x))
  first_alike (y ∷ ys) (suc from) x = option_map suc (first_alike ys from x)

  -- Place p has a row, and that row is alike x.
  abbrev pub AlikeAt : List A → A → ℕ → Type 0
  AlikeAt rows x p = (y : A) × (row_at rows p ≡ Ok y) × (alike y x ≡ true)

  -- No row at or after `from` and below `to` is alike x.
  abbrev pub NoneAlike : List A → ℕ → ℕ → A → Type 0
  NoneAlike rows from to x = (q : ℕ) → from ≤ q → q < to → AlikeAt rows x q → ⊥

  -- Place p is the lowest, at or after `from`, whose row is alike x.
  pub record Lowest (rows : List A) (from : ℕ) (x : A) (p : ℕ) : Type 0 where
    pub after : from ≤ p
    pub below : p < length rows
    pub here : AlikeAt rows x p
    pub earlier : NoneAlike rows from p x

  -- The answer in words: a place given is the lowest; where none is given, no row at or after `from` is alike x.
  abbrev pub FirstAlike : List A → ℕ → A → Option ℕ → Type 0
  FirstAlike rows from x (Some p) = Lowest rows from x p
  FirstAlike rows from x None = NoneAlike rows from (length rows) x

-- Since each row is alike itself, a row x at a place q, at or after `from`, is found: at q or at a lower place.
abbrev pub Finds : {A : Type 0} → List A → ℕ → A → Option ℕ → Type 0
Finds rows from x r = (q : ℕ) → from ≤ q → row_at rows q ≡ Ok x → (p : ℕ) × (r ≡ Some p) × (p ≤ q)
