-- What blocking is: covering is transitive, and the least individual that covers is not blocked.
use Rattle.std.proofs.Common.{◌≡◌, ℕ, ◌<◌, ◌≤◌, true, false, eqb, Ok, Decides, sym, refl, ap, ◌∙◌, ⊎_elim, arith}
use Rattle.std.proofs.lemmas.Bool.{and_parts, and_from, both_ways, cases_Bool, cases_lt, eq-eqb, eqb-true, leb-true, le-leb, or_cases, or_left, or_right}
use Rattle.std.proofs.lemmas.Bool.Decides.{Decides-and, Decides-like}
use Rattle.std.specs.List.{list_any}
use Rattle.rows.specs.Rows.{row_at}
use Rattle.kb.specs.declared.axioms.Assertion.TheVariants.{Is}
use Rattle.kb.specs.declared.names.Concept.{Concept}
use Rattle.kb.specs.Meanings.{Meaning}
use Rattle.calculus.specs.declared.row_kinds.ConceptRow.{ConceptRow}
use Rattle.calculus.specs.Blocking.{BlockerOf, BlockerStands}
use Rattle.calculus.specs.Branches.{Branch, equal, held, concept_row_holds}
use Rattle.calculus.specs.Review.{concept, individual, covers, new, blocks, blocked, blocker, some_under}
use Rattle.calculus.proofs.DecidingLaws.{Least, decides_any, decides_every, decides_implies, decides_some_under, decides_true, least_under-least}

module _ (m : Meaning) (b : Branch) where
  -- every concept that is held of s is held of t
  abbrev pub Covers : ℕ → ℕ → Type 0
  Covers t s = (c : Concept) → held m b (Is c (individual s)) ≡ true → held m b (Is c (individual t)) ≡ true

  -- what every row of s says is held of t
  RowsCovered : ℕ → ℕ → Type 0
  RowsCovered t s = (n : ℕ) (r : ConceptRow) → row_at b.concepts n ≡ Ok r → equal b.pairs r.individual (individual s) ≡ true → held m b (Is r.concept (individual t)) ≡ true

  decides_rows_covered : (t s : ℕ) → Decides (covers m b t s) (RowsCovered t s)
  unfolding RowsCovered
  decides_rows_covered t s =
      decides_every (λ r. decides_implies (equal b.pairs r.individual (individual s)) (held m b (Is r.concept (individual t))) (decides_true _) (decides_true _)) b.concepts

  decides_concept_rows : (c : Concept) (s : ℕ) → Decides (list_any (concept_row_holds m b c (individual s)) b.concepts) ((n : ℕ) × (r : ConceptRow) × (row_at b.concepts n ≡ Ok r) × (concept_row_holds m b c (individual s) r ≡ true))
  decides_concept_rows c s = decides_any (λ r. decides_true (concept_row_holds m b c (individual s) r)) b.concepts

  pub covers-means : (t s : ℕ) → covers m b t s ≡ true → Covers t s
  unfolding RowsCovered
  covers-means t s h c e =
      ⊎_elim
      (λ top. or_left (eqb c.0 0) _ top)
      (λ some. let (n, r, there, says) = (decides_concept_rows c s).0 some in
      let (named, same) = and_parts (eqb r.concept.0 c.0) (equal b.pairs r.individual (individual s)) says in
      ap (λ (k : ℕ). held m b (Is (concept k) (individual t))) (sym (eqb-true r.concept.0 c.0 named)) ∙ (decides_rows_covered t s).0 h n r there same)
      (or_cases (eqb c.0 0) _ e)

  pub covers-from : (t s : ℕ) → Covers t s → covers m b t s ≡ true
  unfolding RowsCovered
  covers-from t s h =
      (decides_rows_covered t s).1
      (λ n r there same. h r.concept (or_right (eqb r.concept.0 0) _ ((decides_concept_rows r.concept s).1 (n, r, there, and_from (eqb r.concept.0 r.concept.0) _ (eq-eqb r.concept.0 r.concept.0 refl) same))))

  pub covers_reflexive : (s : ℕ) → covers m b s s ≡ true
  covers_reflexive s = covers-from s s (λ c e. e)

  pub covers_transitive : (u t s : ℕ) → covers m b u t ≡ true → covers m b t s ≡ true → covers m b u s ≡ true
  covers_transitive u t s h k = covers-from u s (λ c e. covers-means u t h c (covers-means t s k c e))

  pub decides_new : (s : ℕ) → Decides (new m b s) (m.individuals ≤ s)
  decides_new s = (leb-true m.individuals s, le-leb m.individuals s)

  pub decides_blocks : (s t : ℕ) → Decides (blocks m b s t) ((m.individuals ≤ t) × (covers m b t s ≡ true))
  decides_blocks s t = Decides-and (new m b t) (covers m b t s) (decides_new t) (decides_true (covers m b t s))

  pub decides_blocked : (s : ℕ) → Decides (blocked m b s) ((m.individuals ≤ s) × (t : ℕ) × (t < s) × (m.individuals ≤ t) × (covers m b t s ≡ true))
  decides_blocked s =
      Decides-like (blocked m b s)
      (λ (fresh, (t, lt, (new-t, covering))). (fresh, t, lt, new-t, covering))
      (λ (fresh, t, lt, new-t, covering). (fresh, (t, lt, (new-t, covering))))
      (Decides-and (new m b s) (some_under (blocks m b s) s) (decides_new s) (decides_some_under (decides_blocks s) s))

  pub blocker-least : (s : ℕ) → Least (blocks m b s) s (blocker m b s)
  unfolding blocker
  blocker-least s = least_under-least (blocks m b s) s

  -- before the blocker no new individual covers
  pub blocker-first : (s u : ℕ) → m.individuals ≤ u → u < blocker m b s → covers m b u s ≡ false
  blocker-first s u fresh lt =
      ⊎_elim (λ t. absurd (both_ways _ ((blocker-least s).before u lt) ((decides_blocks s u).1 (fresh, t)))) (λ f. f) (cases_Bool (covers m b u s))

  -- of a blocked individual the blocker comes before it
  pub blocker-before : (s : ℕ) → blocked m b s ≡ true → blocker m b s < s
  blocker-before s h =
      let (fresh, t, lt, new-t, covering) = (decides_blocked s).0 h in
      ⊎_elim (λ l. l) (λ ge. absurd (both_ways _ ((blocker-least s).before t (omega (arith, lt, ge))) ((decides_blocks s t).1 (new-t, covering)))) (cases_lt (blocker m b s) s)

  pub blocker-not-blocked : (s : ℕ) → blocked m b s ≡ true → blocked m b (blocker m b s) ≡ false
  blocker-not-blocked s h =
      let t = blocker m b s in
      let lt = blocker-before s h in
      let (fresh, covering) = (decides_blocks s t).0 ((blocker-least s).passes lt) in
      ⊎_elim
      (λ again. let (_, u, before, new-u, over) = (decides_blocked t).0 again in
      absurd (both_ways _ (blocker-first s u new-u before) (covers_transitive u t s over covering)))
      (λ f. f)
      (cases_Bool (blocked m b t))

  pub blocker_of_blocked : (s : ℕ) → blocked m b s ≡ true → BlockerOf m b s (blocker m b s)
  blocker_of_blocked s h =
      let blocking = (decides_blocks s (blocker m b s)).0 ((blocker-least s).passes (blocker-before s h)) in
      record {
        is_new = blocking.0;
        before = blocker-before s h;
        covering = blocking.1;
        least = blocker-first s;
        not_blocked = blocker-not-blocked s h;
      }

  pub blocker_of_unblocked : (s : ℕ) → blocked m b s ≡ false → m.individuals ≤ s → blocker m b s ≡ s
  blocker_of_unblocked s f fresh =
      let least = blocker-least s in
      ⊎_elim
      (λ lt. let blocking = (decides_blocks s (blocker m b s)).0 (least.passes lt) in
      absurd (both_ways _ f ((decides_blocked s).1 (fresh, blocker m b s, lt, blocking.0, blocking.1))))
      (λ ge. omega arith)
      (cases_lt (blocker m b s) s)

pub blocker_stands : BlockerStands
blocker_stands =
    record {
      covers_exactly = λ m b t s. (covers-means m b t s, covers-from m b t s);
      blocked_exactly = decides_blocked;
      blocker_of_blocked = blocker_of_blocked;
      blocker_of_unblocked = blocker_of_unblocked;
    }
