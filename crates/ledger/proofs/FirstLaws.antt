-- What the first place alike a row is, from place to place, and in words.
use Rattle.std.proofs.Common.{◌≡◌, ℕ, zero, suc, ◌<◌, ◌≤◌, Bool, true, false, List, [], ◌∷◌, length, get_or, Some, None, Ok, Option, MatchOption, sym, refl, ap, ◌∙◌, ⊎_elim, arith}
use Rattle.std.specs.Option.{option_map}
use Rattle.std.proofs.lemmas.Bool.{both_ways, cases_lt, cases_order, cond_both}
use Rattle.rows.proofs.RowLaws.{row_at-found, row_at-inside}
use Rattle.ledger.specs.Firsts.{AlikeAt, Finds, FirstAlike, NoneAlike, first_alike}

module _ {A : Type 0} (alike : A → A → Bool) where
  NoneAlike_front : (y : A) (ys : List A) (x : A) → alike y x ≡ false → NoneAlike alike (y ∷ ys) 0 1 x
  NoneAlike_front y ys x f zero h k (z, e, t) = both_ways (alike y x) f (cc)
  NoneAlike_front y ys x f (suc q) h k a = absurd (omega arith)

  NoneAlike_cons : (y : A) (ys : List A) (x : A) (m n to : ℕ) → NoneAlike alike (y ∷ ys) m (suc n) x → NoneAlike alike ys n to x → NoneAlike alike (y ∷ ys) m (suc to) x
  NoneAlike_cons y ys x m n to front rest zero h k a = front zero h (omega arith) a
  NoneAlike_cons y ys x m n to front rest (suc q) h k a =
      ⊎_elim (λ l. front (suc q) h (omega arith) a) (λ l. rest q l (omega arith) a) (cases_lt q n)

  -- a row in front puts each place one further on
  FirstAlike_cons : (y : A) (ys : List A) (x : A) (m n : ℕ) → m ≤ suc n → NoneAlike alike (y ∷ ys) m (suc n) x → (r : Option ℕ) → FirstAlike alike ys n x r → FirstAlike alike (y ∷ ys) m x (option_map suc r)
  FirstAlike_cons y ys x m n h front None f = NoneAlike_cons y ys x m n (length ys) front f
  FirstAlike_cons y ys x m n h front (Some p) f =
      record { after = omega arith; below = omega arith; here = f.here; earlier = NoneAlike_cons y ys x m n p front f.earlier }

  first_alike-first : (xs : List A) (n : ℕ) (x : A) → FirstAlike alike xs n x (first_alike alike xs n x)
  first_alike-first [] n x = λ q h k a. absurd (omega arith)
  first_alike-first (y ∷ ys) zero x =
      cond_both (alike y x) (Some 0) (option_map suc (first_alike alike ys 0 x)) (FirstAlike alike (y ∷ ys) 0 x)
      (λ t. record { after = omega arith; below = omega arith; here = (y, refl, t); earlier = λ q h k a. absurd (omega arith) })
      (λ f. FirstAlike_cons y ys x 0 0 (omega arith) (NoneAlike_front y ys x f) (first_alike alike ys 0 x) (first_alike-first ys 0 x))
  first_alike-first (y ∷ ys) (suc n) x =
      FirstAlike_cons y ys x (suc n) n (omega arith) (λ q h k a. absurd (omega arith)) (first_alike alike ys n x) (first_alike-first ys n x)

  FirstAlike_finds : ((x : A) → alike x x ≡ true) → (xs : List A) (n : ℕ) (x : A) (r : Option ℕ) → FirstAlike alike xs n x r → Finds xs n x r
  FirstAlike_finds same xs n x (Some p) f q h e =
      (p, refl, ⊎_elim (λ l. absurd (f.earlier q h l (x, e, same x))) (λ l. l) (cases_lt q p))
  FirstAlike_finds same xs n x None f q h e = absurd (f q h (row_at-found xs q x e) (x, e, same x))

  -- the test of the row at place k answers t
  abbrev pub Tested : List A → A → Bool → ℕ → Type 0
  Tested xs x t k = (y : A) × (y ≡ get_or xs k y) × (t ≡ alike y x)

  tested-alike : (xs : List A) (x : A) (k : ℕ) → k < length xs → Tested xs x true k → AlikeAt alike xs x k
  tested-alike xs x k h (y, e, t) = (y, row_at-inside xs k y h ∙ ap Ok (sym e), sym t)

  tested-unlike : (xs : List A) (x : A) (k : ℕ) → k < length xs → Tested xs x false k → AlikeAt alike xs x k → ⊥
  tested-unlike xs x k h (y, e, f) (z, there, t) =
      let same : Ok z ≡ Ok y = sym there ∙ row_at-inside xs k y h ∙ ap Ok (sym e) in
      both_ways (alike y x) (sym f) (cc)

  -- what `find` answers over the places of a list, where it looks for a row alike x
  abbrev pub Found : List A → ℕ → A → Option ℕ → Type 0
  Found xs n x r =
      MatchOption r
      ((k : ℕ) → n ≤ k → k < length xs → Tested xs x false k)
      (λ i. (n ≤ i) × (i < length xs) × Tested xs x true i × ((k : ℕ) → n ≤ k → k < i → Tested xs x false k))

  found-first : (xs : List A) (n : ℕ) (x : A) (r : Option ℕ) → Found xs n x r → FirstAlike alike xs n x r
  found-first xs n x None h = λ k from below a. tested-unlike xs x k below (h k from below) a
  found-first xs n x (Some p) (from, below, t, earlier) =
      record {
        after = from;
        below = below;
        here = tested-alike xs x p below t;
        earlier = λ k l m a. tested-unlike xs x k (omega arith) (earlier k l m) a;
      }

  -- there is one first place at most
  first-same : (xs : List A) (n : ℕ) (x : A) (r s : Option ℕ) → FirstAlike alike xs n x r → FirstAlike alike xs n x s → r ≡ s
  first-same xs n x None None f g = refl
  first-same xs n x None (Some q) f g = absurd (f q g.after g.below g.here)
  first-same xs n x (Some p) None f g = absurd (g p f.after f.below f.here)
  first-same xs n x (Some p) (Some q) f g =
      ⊎_elim (λ e. ap Some e) (⊎_elim (λ l. absurd (g.earlier p f.after l f.here)) (λ l. absurd (f.earlier q g.after l g.here))) (cases_order p q)

  -- what `find` answers is what the definition answers and what the words say
  pub first_alike-found : ((x : A) → alike x x ≡ true) → (xs : List A) (n : ℕ) (x : A) (r : Option ℕ) → Found xs n x r → record { value : r ≡ first_alike alike xs n x; means : FirstAlike alike xs n x r; finds : Finds xs n x r }
  first_alike-found same xs n x r h =
      let f = found-first xs n x r h in
      record {
        value = first-same xs n x r (first_alike alike xs n x) f (first_alike-first xs n x);
        means = f;
        finds = FirstAlike_finds same xs n x r f;
      }
