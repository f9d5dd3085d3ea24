-- What one pair more makes of a key, and the numbers that a refused change returns.
use Rattle.std.specs.Prelude.{◌≡◌, ℕ, ◌<◌, ◌≤◌, List, [], ◌∷◌, ◌++◌, length, Ok, Err, Result, ◌≢◌}
use Rattle.rows.specs.Rows.{row_at, refusal, row_fault_numbers}
use Rattle.kb.specs.declared.axioms.Key.{Key}
use Rattle.kb.specs.declared.axioms.Key.TheVariants.{Link}
use Rattle.kb.specs.declared.axioms.RolePair.{RolePair}
use Rattle.kb.specs.declared.axioms.RolePairs.{RolePairs}
use Rattle.kb.specs.declared.axioms.RolePairs.TheVariants.{One, Two, Three, Four}
use Rattle.kb.specs.declared.names.Concept.{Concept}
use Rattle.kb.specs.declared.statement.Statement.{Statement}
use Rattle.kb.specs.declared.statement.Statement.TheVariants.{Key as AskedKey, Inclusion, Same}
use Rattle.kb.specs.Numbers.{pair_list}
use Rattle.layers.specs.declared.fault.LayerFault.{LayerFault}
use Rattle.layers.specs.declared.fault.LayerFault.TheVariants.{Full, Row}

-- The numbers that a refused change returns: 3, layer full; 1, no such row.
abbrev pub layer_fault_numbers : LayerFault → List ℕ
layer_fault_numbers Full = 3 ∷ []
layer_fault_numbers (Row f) = row_fault_numbers f

-- A key's pairs with one more behind them: a key has at most four.
abbrev pub with_pair : RolePair → RolePairs → Result RolePairs LayerFault
with_pair p (One a) = Ok (Two a p)
with_pair p (Two a b) = Ok (Three a b p)
with_pair p (Three a b c) = Ok (Four a b c p)
with_pair p (Four a b c d) = Err Full

-- What one pair more makes of the pairs of a key, in words. Where there are fewer than four, it stands behind those before;
-- else 3 comes back and the pairs are as they were.
pub record PairMore (p : RolePair) (before : RolePairs) (r : Result (Unit {0}) LayerFault) (after : RolePairs) : Type 0 where
  pub put : length (pair_list before) < 4 → (r ≡ Ok tt) × (pair_list after ≡ pair_list before ++ p ∷ [])
  pub full : 4 ≤ length (pair_list before) → (refusal layer_fault_numbers r ≡ 3 ∷ []) × (after ≡ before)

-- Key n of a list has a pair more, or is full; its classes and every other key are as they were.
pub record KeyGrownAt (n : ℕ) (p : RolePair) (before : List Key) (r : Result (Unit {0}) LayerFault) (after : List Key) : Type 0 where
  pub first : Concept
  pub second : Concept
  pub pairs : RolePairs
  pub more : RolePairs
  pub was : row_at before n ≡ Ok (Link first second pairs)
  pub is : row_at after n ≡ Ok (Link first second more)
  pub grown : PairMore p pairs r more
  pub others : (k : ℕ) → (k ≢ n) → row_at after k ≡ row_at before k

-- One pair more for key n: 1 comes back and nothing changes where there is no key n.
pub record KeyGrown (n : ℕ) (p : RolePair) (before : List Key) (r : Result (Unit {0}) LayerFault) (after : List Key) : Type 0 where
  pub known : n < length before → KeyGrownAt n p before r after
  pub unknown : length before ≤ n → (refusal layer_fault_numbers r ≡ 1 ∷ []) × (after ≡ before)

-- One pair more for an asked statement: 1 comes back and nothing changes where it is no key.
abbrev pub StatementGrown : RolePair → Statement → Result (Unit {0}) LayerFault → Statement → Type 0
StatementGrown p (AskedKey c d pairs) r after = (more : RolePairs) × (after ≡ AskedKey c d more) × PairMore p pairs r more
StatementGrown p (Inclusion i) r after = (refusal layer_fault_numbers r ≡ 1 ∷ []) × (after ≡ Inclusion i)
StatementGrown p (Same a b) r after = (refusal layer_fault_numbers r ≡ 1 ∷ []) × (after ≡ Same a b)
