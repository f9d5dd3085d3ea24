-- What a walk that returns the first place finds, from what it finds at each number.
use Rattle.std.proofs.Common.{◌≡◌, ℕ, zero, suc, ◌<◌, Bool, true, false, cond, ◌⊎◌, List, [], ◌∷◌, ◌++◌, Some, None, Ok, Err, Option, Result, sym, refl, ◌∙◌, subst, inl, inr, ⊎_elim, arith}
use Rattle.std.proofs.lemmas.Bool.{cases_eq, cases_order, true≢false, false≢true}
use Rattle.rows.specs.declared.fault.RowFault.{RowFault}
use Rattle.kb.specs.First.{or_else}
use Rattle.failures.specs.Failures.{at_row, first_under}
use Rattle.failures.specs.Places.{Before}

-- no list comes before itself
pub before_irreflexive : (xs : List ℕ) → Before xs xs → ⊥
before_irreflexive [] h = h
before_irreflexive (x ∷ xs) h = ⊎_elim (λ l. absurd (omega arith)) (λ (e, r). before_irreflexive xs r) h

pub before_total : (xs ys : List ℕ) → (xs ≡ ys) ⊎ (Before xs ys ⊎ Before ys xs)
before_total [] [] = inl refl
before_total [] (y ∷ ys) = inr (inl tt)
before_total (x ∷ xs) [] = inr (inr tt)
before_total (x ∷ xs) (y ∷ ys) =
    ⊎_elim
    (λ e. ⊎_elim (λ q. inl (cc)) (⊎_elim (λ l. inr (inl (inr (e, l)))) (λ l. inr (inr (inr (sym e, l))))) (before_total xs ys))
    (⊎_elim (λ l. inr (inl (inl l))) (λ l. inr (inr (inl l))))
    (cases_order x y)

-- a list begins with the numbers given
abbrev pub Begins : List ℕ → List ℕ → Type 0
Begins [] ys = Unit {0}
Begins (x ∷ xs) [] = ⊥
Begins (x ∷ xs) (y ∷ ys) = (y ≡ x) × Begins xs ys

begins-front : (p q ys : List ℕ) → Begins (p ++ q) ys → Begins p ys
begins-front [] q ys h = tt
begins-front (x ∷ p) q [] h = h
begins-front (x ∷ p) q (y ∷ ys) (e, h) = (e, begins-front p q ys h)

-- of two lists that are told apart by one number, that with the larger does not come before
before-begins : (p : List ℕ) (j k : ℕ) (xs ys : List ℕ) → j < k → Begins (p ++ j ∷ []) xs → Begins (p ++ k ∷ []) ys → Before ys xs → ⊥
before-begins [] j k [] ys lt hx hy h = hx
before-begins [] j k (x ∷ xs) [] lt hx hy h = hy
before-begins [] j k (x ∷ xs) (y ∷ ys) lt (ex, _) (ey, _) h = ⊎_elim (λ l. absurd (omega arith)) (λ (e, _). absurd (omega arith)) h
before-begins (q ∷ p) j k [] ys lt hx hy h = hx
before-begins (q ∷ p) j k (x ∷ xs) [] lt hx hy h = hy
before-begins (q ∷ p) j k (x ∷ xs) (y ∷ ys) lt (ex, hx) (ey, hy) h =
    ⊎_elim (λ l. absurd (omega arith)) (λ (_, r). before-begins p j k xs ys lt hx hy r) h

module _ {F : Type 0} (numbers : F → List ℕ) where
  -- A walk among places whose numbers begin with p: if it finds nothing, C holds; if C holds there is no place of S; what it
  -- finds is a place of S, and none of S comes before it.
  pub record Finds (p : List ℕ) (C : Type 0) (S : F → Type 0) (o : Option F) : Type 0 where
    pub none : o ≡ None → C
    pub clear : C → (f : F) → S f → ⊥
    pub begins : (f : F) → S f → Begins p (numbers f)
    pub some : (f : F) → o ≡ Some f → S f × ((g : F) → S g → Before (numbers g) (numbers f) → ⊥)

  pub finds_like : {p : List ℕ} {C D : Type 0} {S T : F → Type 0} {o : Option F} → (C → D) → (D → C) → ((f : F) → S f → T f) → ((f : F) → T f → S f) → Finds p C S o → Finds p D T o
  finds_like to from there back h =
      record {
        none = λ e. to (h.none e);
        clear = λ d f t. h.clear (from d) f (back f t);
        begins = λ f t. h.begins f (back f t);
        some = λ f e. (there f (h.some f e).0, λ g t. (h.some f e).1 g (back g t));
      }

  pub finds-front : {C : Type 0} {S : F → Type 0} {o : Option F} (p q : List ℕ) → Finds (p ++ q) C S o → Finds p C S o
  finds-front p q h =
      record { none = h.none; clear = h.clear; begins = λ f s. begins-front p q (numbers f) (h.begins f s); some = h.some }

  -- one place, unless a test passes
  pub finds_test : (p : List ℕ) (t : Bool) (f : F) → Begins p (numbers f) → Finds p (t ≡ true) (λ g. (g ≡ f) × (t ≡ false)) (cond t None (Some f))
  finds_test p true f h =
      record {
        none = λ _. refl;
        clear = λ _ g (_, e). true≢false e;
        begins = λ g (_, e). absurd (true≢false e);
        some = λ g e. let z : ◌≡◌ {A = ℕ} 0 1 = cc in absurd (omega arith);
      }
  finds_test p false f h =
      record {
        none = λ e. let z : ◌≡◌ {A = ℕ} 0 1 = cc in absurd (omega arith);
        clear = λ e _ _. false≢true e;
        begins = λ g (q, _). subst (λ (x : F). Begins p (numbers x)) (sym q) h;
        some = λ g e.
            let q : g ≡ f = cc in
            ((q, refl), λ x (r, _) l. before_irreflexive (numbers g) (subst (λ (y : F). Before (numbers y) (numbers g)) (r ∙ sym q) l));
      }

  -- nothing is found
  pub finds-nothing : (p : List ℕ) → Finds p (Unit {0}) (λ f. ⊥) None
  finds-nothing p =
      record {
        none = λ _. tt;
        clear = λ _ f s. s;
        begins = λ f s. absurd s;
        some = λ f e. let z : ◌≡◌ {A = ℕ} 0 1 = cc in absurd (omega arith);
      }

  -- a walk that is made only where a test fails, and one only where it passes
  pub finds-unless : {p : List ℕ} {C : Type 0} {S : F → Type 0} {o : Option F} (t : Bool) → Finds p C S o → Finds p (t ≡ false → C) (λ f. (t ≡ false) × S f) (cond t None o)
  finds-unless true h =
      record {
        none = λ _ e. absurd (true≢false e);
        clear = λ _ f (e, _). true≢false e;
        begins = λ f (e, _). absurd (true≢false e);
        some = λ f e. let z : ◌≡◌ {A = ℕ} 0 1 = cc in absurd (omega arith);
      }
  finds-unless false h = finds_like (λ c _. c) (λ c. c refl) (λ f s. (refl, s)) (λ f (_, s). s) h

  pub finds_where : {p : List ℕ} {C : Type 0} {S : F → Type 0} {o : Option F} (t : Bool) → Finds p C S o → Finds p (t ≡ true → C) (λ f. (t ≡ true) × S f) (cond t o None)
  finds_where true h = finds_like (λ c _. c) (λ c. c refl) (λ f s. (refl, s)) (λ f (_, s). s) h
  finds_where false h =
      record {
        none = λ _ e. absurd (false≢true e);
        clear = λ _ f (e, _). false≢true e;
        begins = λ f (e, _). absurd (false≢true e);
        some = λ f e. let z : ◌≡◌ {A = ℕ} 0 1 = cc in absurd (omega arith);
      }

  -- a walk at a row that was asked for
  pub finds-row : {X : Type 0} {p : List ℕ} {C : X → Type 0} {S : X → F → Type 0} {find : X → Option F} → ((x : X) → Finds p (C x) (S x) (find x)) → (r : Result X RowFault) → Finds p ((x : X) → r ≡ Ok x → C x) (λ f. (x : X) × (r ≡ Ok x) × S x f) (at_row find r)
  finds-row {X} {p} {C} {S} {find} each (Ok y) =
      finds_like
      (λ h x e. let q : y ≡ x = cc in subst C q h)
      (λ h. h y refl)
      (λ f s. (y, refl, s))
      (λ f (x, e, s). let q : x ≡ y = cc in subst (λ (z : X). S z f) q s)
      (each y)
  finds-row each (Err f) =
      finds_like
      (λ _ x e. let z : ◌≡◌ {A = ℕ} 0 1 = cc in absurd (omega arith))
      (λ _. tt)
      (λ f s. absurd s)
      (λ f (x, e, s). let z : ◌≡◌ {A = ℕ} 0 1 = cc in absurd (omega arith))
      (finds-nothing _)

  -- one walk after another, whose places do not come before the first's
  pub finds_or_else : {p : List ℕ} {C D : Type 0} {S T : F → Type 0} (o o' : Option F) → ((f g : F) → S f → T g → Before (numbers g) (numbers f) → ⊥) → Finds p C S o → Finds p D T o' → Finds p (C × D) (λ f. S f ⊎ T f) (or_else o o')
  finds_or_else None o' order h k =
      record {
        none = λ e. (h.none refl, k.none e);
        clear = λ (c, d) f s. ⊎_elim (h.clear c f) (k.clear d f) s;
        begins = λ f s. ⊎_elim (h.begins f) (k.begins f) s;
        some = λ f e. (inr (k.some f e).0, λ g s. ⊎_elim (λ q _. h.clear (h.none refl) g q) ((k.some f e).1 g) s);
      }
  finds_or_else (Some x) o' order h k =
      record {
        none = λ e. let z : ◌≡◌ {A = ℕ} 0 1 = cc in absurd (omega arith);
        clear = λ (c, d) f s. ⊎_elim (h.clear c f) (k.clear d f) s;
        begins = λ f s. ⊎_elim (h.begins f) (k.begins f) s;
        some = λ f e. (inl (h.some f e).0, λ g s. ⊎_elim ((h.some f e).1 g) (order f g (h.some f e).0) s);
      }

  -- two walks whose places are told apart by their next number
  pub finds-both : {C D : Type 0} {S T : F → Type 0} (p : List ℕ) (j k : ℕ) (o o' : Option F) → j < k → Finds (p ++ j ∷ []) C S o → Finds (p ++ k ∷ []) D T o' → Finds p (C × D) (λ f. S f ⊎ T f) (or_else o o')
  finds-both p j k o o' lt a c =
      finds_or_else o o' (λ f g s t. before-begins p j k (numbers f) (numbers g) lt (a.begins f s) (c.begins g t))
      (finds-front p (j ∷ []) a) (finds-front p (k ∷ []) c)

  -- a walk over the numbers below a bound, with number k at the place's next number, at k
  pub finds_under : {C : ℕ → Type 0} {S : ℕ → F → Type 0} {find : ℕ → Option F} (p : List ℕ) (at : ℕ → ℕ) → ((j k : ℕ) → j < k → at j < at k) → ((k : ℕ) → Finds (p ++ at k ∷ []) (C k) (S k) (find k))
      → (n : ℕ) → Finds p ((k : ℕ) → k < n → C k) (λ f. (k : ℕ) × (k < n) × S k f) (first_under find n)
  finds_under p at up each zero =
      finds_like (λ _ k l. absurd (omega arith)) (λ _. tt) (λ f s. absurd s) (λ f (k, l, _). absurd (omega arith)) (finds-nothing p)
  finds_under {C} {S} {find} p at up each (suc n) =
      finds_like
      (λ (below, here) k l. ⊎_elim (λ e. subst C (sym e) here) (λ ne. below k (omega arith)) (cases_eq k n))
      (λ h. (λ k l. h k (omega arith), h n (omega arith)))
      (λ f s. ⊎_elim (λ (k, l, t). (k, omega arith, t)) (λ t. (n, omega arith, t)) s)
      (λ f (k, l, t). ⊎_elim (λ e. inr (subst (λ (j : ℕ). S j f) e t)) (λ ne. inl (k, omega arith, t)) (cases_eq k n))
      (finds_or_else (first_under find n) (find n)
      (λ f g (k, l, s) t. before-begins p (at k) (at n) (numbers f) (numbers g) (up k n l) ((each k).begins f s) ((each n).begins g t))
      (finds_under p at up each n) (finds-front p (at n ∷ []) (each n)))
