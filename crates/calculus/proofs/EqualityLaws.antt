-- The head of an individual is the smallest of the least equivalence that contains the same rows.
use Rattle.std.proofs.Common.{◌≡◌, ℕ, zero, suc, ◌≤◌, min, true, ◌||◌, eqb, List, [], ◌∷◌, ◌++◌, Ok, sym, refl, ap, ◌∙◌, subst, ⊎_elim, arith}
use Rattle.std.proofs.lemmas.Bool.{or_cases, or_left, or_right, eqb-true, eq-eqb, cases_lt, cond_both, cond-true}
use Rattle.rows.specs.Rows.{row_at}
use Rattle.rows.proofs.RowLaws.{row_at-append-left, row_at-found}
use Rattle.kb.specs.declared.names.Individual.{Individual}
use Rattle.calculus.specs.declared.row_kinds.PairRow.{PairRow}
use Rattle.calculus.specs.declared.row_kinds.PairRow.TheVariants.{Same as SameRow, Different as DifferentRow}
use Rattle.calculus.specs.Branches.{Equal, same, self, turned, chained, merged, join_heads, heads_from, head_of, equal}
use Rattle.calculus.specs.Equality.{HeadsAreLeast}

abbrev individual : ℕ → Individual
individual n = record { 0 = n }

-- a value that the two individuals of each same row share is shared by equal individuals
pub Equal-respected :
    {A : Type 0} (pairs : List PairRow) (f : Individual → A)
    → ((x y : Individual) (n : ℕ) → row_at pairs n ≡ Ok (SameRow x y) → f x ≡ f y) → {x y : Individual} → Equal pairs x y → f x ≡ f y
Equal-respected pairs f k (same {x = x} {y = y} n e) = k x y n e
Equal-respected pairs f k self = refl
Equal-respected pairs f k (turned e) = sym (Equal-respected pairs f k e)
Equal-respected pairs f k (chained e g) = Equal-respected pairs f k e ∙ Equal-respected pairs f k g

-- where other rows make the individuals of each same row equal, they make equal whatever these rows do
pub Equal-among :
    (ps qs : List PairRow) → ((x y : Individual) (n : ℕ) → row_at ps n ≡ Ok (SameRow x y) → Equal qs x y)
    → {x y : Individual} → Equal ps x y → Equal qs x y
Equal-among ps qs k (same {x = x} {y = y} n e) = k x y n e
Equal-among ps qs k self = self
Equal-among ps qs k (turned e) = turned (Equal-among ps qs k e)
Equal-among ps qs k (chained e g) = chained (Equal-among ps qs k e) (Equal-among ps qs k g)

pub row_at-append-found : {X : Type 0} (xs ys : List X) (n : ℕ) (x : X) → row_at xs n ≡ Ok x → row_at (xs ++ ys) n ≡ Ok x
row_at-append-found xs ys n x e = row_at-append-left xs ys n (row_at-found xs n x e) ∙ e

-- what is equal stays equal as rows are appended
pub Equal-append : (ps qs : List PairRow) {x y : Individual} → Equal ps x y → Equal (ps ++ qs) x y
Equal-append ps qs = Equal-among ps (ps ++ qs) (λ x y n e. same n (row_at-append-found ps qs n (SameRow x y) e))

merged_le : (u v x : ℕ) → merged u v x ≤ x
merged_le u v x =
    cond_both (eqb x u || eqb x v) _ x (λ w. w ≤ x)
    (λ t. ⊎_elim (λ e. omega (arith, eqb-true x u e)) (λ e. omega (arith, eqb-true x v e)) (or_cases (eqb x u) (eqb x v) t))
    (λ _. omega arith)

pub merged-left : (u v : ℕ) → merged u v u ≡ min u v
merged-left u v = cond-true (eqb u u || eqb u v) (min u v) u (or_left (eqb u u) (eqb u v) (eq-eqb u u refl))

pub merged_right : (u v : ℕ) → merged u v v ≡ min u v
merged_right u v = cond-true (eqb v u || eqb v v) (min u v) v (or_right (eqb v u) (eqb v v) (eq-eqb v v refl))

-- heads only fall
heads_from_le : (ps : List PairRow) (h : ℕ → ℕ) → ((x : ℕ) → h x ≤ x) → (x : ℕ) → heads_from h ps x ≤ x
heads_from_le [] h l = l
heads_from_le (SameRow a b ∷ ps) h l =
    heads_from_le ps (join_heads h (SameRow a b)) (λ x. omega (arith, l x, merged_le (h a.0) (h b.0) (h x)))
heads_from_le (DifferentRow a b ∷ ps) h l = heads_from_le ps (join_heads h (DifferentRow a b)) l

-- what has one head keeps one head
heads_from-kept : (ps : List PairRow) (h : ℕ → ℕ) (x y : ℕ) → h x ≡ h y → heads_from h ps x ≡ heads_from h ps y
heads_from-kept [] h x y e = e
heads_from-kept (SameRow a b ∷ ps) h x y e =
    heads_from-kept ps (join_heads h (SameRow a b)) x y (ap (merged (h a.0) (h b.0)) e)
heads_from-kept (DifferentRow a b ∷ ps) h x y e = heads_from-kept ps (join_heads h (DifferentRow a b)) x y e

-- the individuals of a same row get one head
headsFrom-row :
    (ps : List PairRow) (h : ℕ → ℕ) (x y : Individual) (n : ℕ)
    → row_at ps n ≡ Ok (SameRow x y) → heads_from h ps x.0 ≡ heads_from h ps y.0
headsFrom-row [] h x y n e = let z : ◌≡◌ {A = ℕ} 0 1 = cc in absurd (omega arith)
headsFrom-row (SameRow a b ∷ ps) h x y zero e =
    let heads = heads_from (join_heads h (SameRow a b)) ps in
    let s : x ≡ a = cc in
    let t : y ≡ b = cc in
    ap (λ (i : Individual). heads i.0) s
    ∙ heads_from-kept ps (join_heads h (SameRow a b)) a.0 b.0
    (merged-left (h a.0) (h b.0) ∙ sym (merged_right (h a.0) (h b.0)))
    ∙ sym (ap (λ (i : Individual). heads i.0) t)
headsFrom-row (DifferentRow a b ∷ ps) h x y zero e = let z : ◌≡◌ {A = ℕ} 0 1 = cc in absurd (omega arith)
headsFrom-row (p ∷ ps) h x y (suc n) e = headsFrom-row ps (join_heads h p) x y n e

module _ (all : List PairRow) where
  merged-reached : (u v x : ℕ) → Equal all (individual u) (individual v) → Equal all (individual x) (individual (merged u v x))
  merged-reached u v x e =
      cond_both (eqb x u || eqb x v) (min u v) x (λ w. Equal all (individual x) (individual w))
      (λ t. ⊎_elim (λ q. from u (eqb-true x u q) smaller) (λ q. from v (eqb-true x v q) (chained (turned e) smaller))
      (or_cases (eqb x u) (eqb x v) t))
      (λ _. self)
    where
      smaller : Equal all (individual u) (individual (min u v))
      smaller =
          ⊎_elim (λ l. let m : u ≡ min u v = omega arith in subst (λ w. Equal all (individual u) (individual w)) m self)
          (λ l. let m : v ≡ min u v = omega arith in subst (λ w. Equal all (individual u) (individual w)) m e) (cases_lt u v)

      from : (w : ℕ) → x ≡ w → Equal all (individual w) (individual (min u v)) → Equal all (individual x) (individual (min u v))
      from w q = subst (λ z. Equal all (individual z) (individual (min u v))) (sym q)

  -- heads are reached by rows whose same rows are equal
  headsFrom-reached :
      (ps : List PairRow) (h : ℕ → ℕ) → ((x y : Individual) (n : ℕ) → row_at ps n ≡ Ok (SameRow x y) → Equal all x y)
      → ((x : ℕ) → Equal all (individual x) (individual (h x))) → (x : ℕ) → Equal all (individual x) (individual (heads_from h ps x))
  headsFrom-reached [] h k f = f
  headsFrom-reached (SameRow a b ∷ ps) h k f =
      headsFrom-reached ps (join_heads h (SameRow a b)) (λ x y n. k x y (suc n))
      (λ x. chained (f x) (merged-reached (h a.0) (h b.0) (h x) joined))
    where
      joined : Equal all (individual (h a.0)) (individual (h b.0))
      joined = chained (turned (f a.0)) (chained (k a b 0 refl) (f b.0))
  headsFrom-reached (DifferentRow a b ∷ ps) h k f =
      headsFrom-reached ps (join_heads h (DifferentRow a b)) (λ x y n. k x y (suc n)) f

-- an individual is equal to its head
pub head_reached : (pairs : List PairRow) (x : Individual) → Equal pairs x (record { 0 = head_of pairs x.0 })
unfolding head_of
head_reached pairs x = headsFrom-reached pairs pairs (λ z. z) (λ a b. same) (λ z. self) x.0

pub head_le : (pairs : List PairRow) (x : ℕ) → head_of pairs x ≤ x
unfolding head_of
head_le pairs x = heads_from_le pairs (λ z. z) (λ z. omega arith) x

-- equal individuals have one head
pub head_from_Equal : (pairs : List PairRow) {x y : Individual} → Equal pairs x y → head_of pairs x.0 ≡ head_of pairs y.0
unfolding head_of
head_from_Equal pairs = Equal-respected pairs (λ z. head_of pairs z.0) (headsFrom-row pairs (λ z. z))

-- individuals of one head are equal
pub Equal_from_head : (pairs : List PairRow) (x y : Individual) → head_of pairs x.0 ≡ head_of pairs y.0 → Equal pairs x y
Equal_from_head pairs x y e =
    chained (head_reached pairs x) (subst (λ n. Equal pairs (individual n) y) (sym e) (turned (head_reached pairs y)))

-- no equal individual is smaller than the head
pub head_least : (pairs : List PairRow) (x y : Individual) → Equal pairs x y → head_of pairs x.0 ≤ y.0
head_least pairs x y e = omega (arith, head_from_Equal pairs e, head_le pairs y.0)

pub equal-from-Equal : (pairs : List PairRow) (x y : Individual) → Equal pairs x y → equal pairs x y ≡ true
equal-from-Equal pairs x y e = eq-eqb (head_of pairs x.0) (head_of pairs y.0) (head_from_Equal pairs e)

pub Equal-from-equal : (pairs : List PairRow) (x y : Individual) → equal pairs x y ≡ true → Equal pairs x y
Equal-from-equal pairs x y e = Equal_from_head pairs x y (eqb-true (head_of pairs x.0) (head_of pairs y.0) e)

pub heads_are_least : HeadsAreLeast
heads_are_least =
    record {
      reached = head_reached;
      least = head_least;
      same = λ pairs x y. (Equal-from-equal pairs x y, equal-from-Equal pairs x y);
    }
