-- What an answer that does not refuse tells of the answers that it was made from.
use Rattle.std.proofs.Common.{◌≡◌, ℕ, Bool, true, false, cond, Ok, Err, Result, refl, ap, arith}
use Rattle.rows.specs.declared.fault.RowFault.{RowFault}
use Rattle.kb.specs.Meanings.{Meaning}
use Rattle.calculus.specs.Table.{and_then, inside, row_in}

pub Ok_injective : {X E : Type 0} {x y : X} → ◌≡◌ {A = Result X E} (Ok x) (Ok y) → x ≡ y
Ok_injective e = cc

pub Err_not_Ok : {X E P : Type 0} {f : E} {y : X} → ◌≡◌ {A = Result X E} (Err f) (Ok y) → P
Err_not_Ok e = let z : ◌≡◌ {A = ℕ} 0 1 = cc in absurd (omega arith)

pub and_then_Ok : {X Y E : Type 0} (r : Result X E) (next : X → Result Y E) (y : Y) → and_then r next ≡ Ok y → (x : X) × (r ≡ Ok x) × (next x ≡ Ok y)
and_then_Ok (Ok x) next y e = (x, refl, e)
and_then_Ok (Err f) next y e = Err_not_Ok e

pub cond_Ok : {X E : Type 0} (b : Bool) (r : Result X E) (f : E) (x : X) → cond b r (Err f) ≡ Ok x → (b ≡ true) × (r ≡ Ok x)
cond_Ok true r f x e = (refl, e)
cond_Ok false r f x e = Err_not_Ok e

pub inside_Ok : {X : Type 0} (b : Bool) (x y : X) → inside b x ≡ Ok y → (b ≡ true) × (x ≡ y)
inside_Ok true x y e = (refl, cc)
inside_Ok false x y e = Err_not_Ok e

pub row_in_Ok : {X : Type 0} (m : Meaning) (n : ℕ) (b : Bool) (row : Result X RowFault) (x : X) → row_in m n b row ≡ Ok x → (b ≡ true) × (row ≡ Ok x)
row_in_Ok m n b (Ok y) x e = let q = inside_Ok b y x e in (q.0, ap Ok q.1)
row_in_Ok m n b (Err f) x e = Err_not_Ok e
