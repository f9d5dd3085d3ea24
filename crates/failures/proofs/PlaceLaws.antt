-- What is found under each condition: nothing exactly where its test passes, or the first place at which it fails.
use Rattle.std.proofs.Common.{◌≡◌, ℕ, ◌+◌, ◌*◌, ◌<◌, Bool, true, false, not, ◌&&◌, ◌||◌, [], ◌∷◌, length, Ok, refl, arith}
use Rattle.rows.specs.Rows.{row_at}
use Rattle.rows.proofs.RowLaws.{row_at-found}
use Rattle.kb.specs.declared.axioms.Assertion.{Assertion as AssertionRow}
use Rattle.kb.specs.declared.axioms.Assertion.TheVariants.{Is, Joins, Different}
use Rattle.kb.specs.declared.axioms.Inclusion.{Inclusion as InclusionRow}
use Rattle.kb.specs.declared.axioms.Key.{Key as KeyRow}
use Rattle.kb.specs.declared.lexicon.Entry.{Entry}
use Rattle.kb.specs.declared.lexicon.Entry.TheVariants.{Top, Name, Both as BothEntry, Some as SomeEntry, Unlisted}
use Rattle.kb.specs.declared.names.Concept.{Concept}
use Rattle.kb.specs.declared.names.Role.{Role}
use Rattle.kb.specs.Meanings.{Meaning}
use Rattle.kb.specs.Names.{complement}
use Rattle.calculus.specs.Branches.{Branch, equal, held}
use Rattle.calculus.specs.Review.{all_reached, all_under, blocked, both_parts, concept, condition2, condition3, condition4, condition5, condition6, condition7, condition8, each_entry, either_part, holds, individual, key_kept, no_clash, no_different, some_reached}
use Rattle.calculus.proofs.ConditionLaws.{decides_each_entry, decides_unblocked}
use Rattle.calculus.proofs.DecidingLaws.{decides_all_under, decides_every, decides_implies, decides_true}
use Rattle.failures.specs.declared.failure.EntryCondition.{EntryCondition}
use Rattle.failures.specs.declared.failure.EntryCondition.TheVariants.{BothParts, AllReached, EitherPart, SomeReached}
use Rattle.failures.specs.declared.failure.Failure.{Failure}
use Rattle.failures.specs.declared.failure.Failure.TheVariants.{Clash, Apart, Assertion, Both, All, Inclusion, Key, Either, Some as SomeFailure}
use Rattle.failures.specs.Failures.{asked_of, entry_at, first_apart, first_assertion, first_clash, first_inclusion, first_key, first_of_entries}
use Rattle.failures.specs.Places.{failure_numbers}
use Rattle.failures.proofs.Finding.{Finds, finds_like, finds-nothing, finds-row, finds_test, finds_under, finds-unless, finds_where}

-- numbers, the numbers of entries' own concepts, and of their complements
as_told : (j k : ℕ) → j < k → j < k
as_told j k l = l

doubled : (j k : ℕ) → j < k → 2 * j < 2 * k
doubled j k l = omega arith

doubled-more : (j k : ℕ) → j < k → 2 * j + 1 < 2 * k + 1
doubled-more j k l = omega arith

module _ (m : Meaning) (b : Branch) where
  -- an entry's concept and its complement are held
  abbrev pub clear : ℕ → ℕ → Bool
  clear k x = not (holds m b (2 * k) x && holds m b (2 * k + 1) x)

  abbrev pub ClashFound : Failure → Type 0
  ClashFound f =
      (k : ℕ) × (k < length m.entries) × ((x : ℕ) × (x < b.individuals) × ((f ≡ Clash (concept (2 * k)) (individual x)) × (clear k x ≡ false)))

  pub finds_clash : Finds failure_numbers (1 ∷ 0 ∷ []) (no_clash m b ≡ true) ClashFound (first_clash m b)
  finds_clash =
      let d = decides_all_under (λ k. decides_all_under (λ x. decides_true (clear k x)) b.individuals) (length m.entries) in
      finds_like failure_numbers d.1 d.0 (λ f s. s) (λ f s. s)
      (finds_under failure_numbers (1 ∷ 0 ∷ []) (λ k. 2 * k) doubled
      (λ k. finds_under failure_numbers (1 ∷ 0 ∷ 2 * k ∷ []) (λ x. x) as_told
      (λ x. finds_test failure_numbers (1 ∷ 0 ∷ 2 * k ∷ x ∷ []) (clear k x) (Clash (concept (2 * k)) (individual x)) (refl, (refl, (refl, (refl, tt)))))
      b.individuals)
      (length m.entries))

  -- two individuals are different and equal
  abbrev pub not_apart : ℕ → ℕ → Bool
  not_apart x y = not (held m b (Different (individual x) (individual y)) && equal b.pairs (individual x) (individual y))

  abbrev pub ApartFound : Failure → Type 0
  ApartFound f =
      (x : ℕ) × (x < b.individuals) × ((y : ℕ) × (y < b.individuals) × ((f ≡ Apart (individual x) (individual y)) × (not_apart x y ≡ false)))

  pub finds_apart : Finds failure_numbers (1 ∷ 1 ∷ []) (no_different m b ≡ true) ApartFound (first_apart m b)
  finds_apart =
      let d = decides_all_under (λ x. decides_all_under (λ y. decides_true (not_apart x y)) b.individuals) b.individuals in
      finds_like failure_numbers d.1 d.0 (λ f s. s) (λ f s. s)
      (finds_under failure_numbers (1 ∷ 1 ∷ []) (λ x. x) as_told
      (λ x. finds_under failure_numbers (1 ∷ 1 ∷ x ∷ []) (λ y. y) as_told
      (λ y. finds_test failure_numbers (1 ∷ 1 ∷ x ∷ y ∷ []) (not_apart x y) (Apart (individual x) (individual y)) (refl, (refl, (refl, (refl, tt)))))
      b.individuals)
      b.individuals)

  -- an assertion is not held
  abbrev pub AssertionFound : Failure → Type 0
  AssertionFound f =
      (n : ℕ) × (n < length m.assertions) × ((a : AssertionRow) × (row_at m.assertions n ≡ Ok a) × ((f ≡ Assertion n) × (held m b a ≡ false)))

  pub finds_assertion : Finds failure_numbers (2 ∷ []) (condition2 m b ≡ true) AssertionFound (first_assertion m b)
  finds_assertion =
      let d = decides_every (λ a. decides_true (held m b a)) m.assertions in
      finds_like failure_numbers
      (λ h. d.1 (λ n a e. h n (row_at-found m.assertions n a e) a e)) (λ t n _ a e. d.0 t n a e) (λ f s. s) (λ f s. s)
      (finds_under failure_numbers (2 ∷ []) (λ n. n) as_told
      (λ n. finds-row failure_numbers
      (λ a. finds_test failure_numbers (2 ∷ n ∷ []) (held m b a) (Assertion n) (refl, (refl, tt)))
      (row_at m.assertions n))
      (length m.assertions))

  -- a place under a condition on entries
  abbrev pub EntryFound : (ℕ → Entry → ℕ → Failure → Type 0) → Failure → Type 0
  EntryFound S f =
      (k : ℕ) × (k < length m.entries) × ((e : Entry) × (row_at m.entries k ≡ Ok e) × ((x : ℕ) × (x < b.individuals) × ((blocked m b x ≡ false) × S k e x f)))

  -- what is found under a condition on entries, from what is found at each entry and individual
  finds-entries : (number : ℕ) (at : ℕ → ℕ) → ((j k : ℕ) → j < k → at j < at k) → (which : EntryCondition) (test : ℕ → ℕ → Entry → Bool) {S : ℕ → Entry → ℕ → Failure → Type 0}
      → ((k : ℕ) (e : Entry) (x : ℕ) → Finds failure_numbers (number ∷ at k ∷ x ∷ []) (test k x e ≡ true) (S k e x) (entry_at m b which (concept (asked_of which k)) e x))
      → Finds failure_numbers (number ∷ []) (each_entry m b test ≡ true) (EntryFound S) (first_of_entries m b which)
  finds-entries number at up which test {S} each =
      let d = decides_each_entry m b {test = test} {P = λ k x e. test k x.0 e ≡ true} (λ k x e. decides_true (test k x e)) in
      finds_like failure_numbers
      (λ h. d.1 (λ x lx clear k e there. h k (row_at-found m.entries k e there) e there x.0 lx clear))
      (λ t k _ e there x lx clear. d.0 t (individual x) lx clear k e there)
      (λ f s. s) (λ f s. s)
      (finds_under failure_numbers (number ∷ []) at up
      (λ k. finds-row failure_numbers
      (λ e. finds_under failure_numbers (number ∷ at k ∷ []) (λ x. x) as_told (λ x. finds-unless failure_numbers (blocked m b x) (each k e x)) b.individuals)
      (row_at m.entries k))
      (length m.entries))

  abbrev pub BothFound : Failure → Type 0
  BothFound = EntryFound (λ k e x f. (f ≡ Both (concept (2 * k)) (individual x)) × (both_parts m b k x e ≡ false))

  finds-both-at : (k : ℕ) (e : Entry) (x : ℕ) → Finds failure_numbers (3 ∷ (2 * k) ∷ x ∷ []) (both_parts m b k x e ≡ true) (λ f. (f ≡ Both (concept (2 * k)) (individual x)) × (both_parts m b k x e ≡ false)) (entry_at m b BothParts (concept (2 * k)) e x)
  finds-both-at k Top x = finds_test failure_numbers (3 ∷ (2 * k) ∷ x ∷ []) (both_parts m b k x Top) (Both (concept (2 * k)) (individual x)) (refl, (refl, (refl, tt)))
  finds-both-at k Name x = finds_test failure_numbers (3 ∷ (2 * k) ∷ x ∷ []) (both_parts m b k x Name) (Both (concept (2 * k)) (individual x)) (refl, (refl, (refl, tt)))
  finds-both-at k (BothEntry d e) x = finds_test failure_numbers (3 ∷ (2 * k) ∷ x ∷ []) (both_parts m b k x (BothEntry d e)) (Both (concept (2 * k)) (individual x)) (refl, (refl, (refl, tt)))
  finds-both-at k (SomeEntry r d) x = finds_test failure_numbers (3 ∷ (2 * k) ∷ x ∷ []) (both_parts m b k x (SomeEntry r d)) (Both (concept (2 * k)) (individual x)) (refl, (refl, (refl, tt)))
  finds-both-at k (Unlisted kind) x = finds_test failure_numbers (3 ∷ (2 * k) ∷ x ∷ []) (both_parts m b k x (Unlisted kind)) (Both (concept (2 * k)) (individual x)) (refl, (refl, (refl, tt)))

  pub finds-both-parts : Finds failure_numbers (3 ∷ []) (condition3 m b ≡ true) BothFound (first_of_entries m b BothParts)
  finds-both-parts = finds-entries 3 (λ k. 2 * k) doubled BothParts (both_parts m b) finds-both-at

  abbrev pub EitherFound : Failure → Type 0
  EitherFound = EntryFound (λ k e x f. (f ≡ Either (concept (2 * k + 1)) (individual x)) × (either_part m b k x e ≡ false))

  finds-either-at : (k : ℕ) (e : Entry) (x : ℕ) → Finds failure_numbers (7 ∷ (2 * k + 1) ∷ x ∷ []) (either_part m b k x e ≡ true) (λ f. (f ≡ Either (concept (2 * k + 1)) (individual x)) × (either_part m b k x e ≡ false)) (entry_at m b EitherPart (concept (2 * k + 1)) e x)
  finds-either-at k Top x = finds_test failure_numbers (7 ∷ (2 * k + 1) ∷ x ∷ []) (either_part m b k x Top) (Either (concept (2 * k + 1)) (individual x)) (refl, (refl, (refl, tt)))
  finds-either-at k Name x = finds_test failure_numbers (7 ∷ (2 * k + 1) ∷ x ∷ []) (either_part m b k x Name) (Either (concept (2 * k + 1)) (individual x)) (refl, (refl, (refl, tt)))
  finds-either-at k (BothEntry d e) x = finds_test failure_numbers (7 ∷ (2 * k + 1) ∷ x ∷ []) (either_part m b k x (BothEntry d e)) (Either (concept (2 * k + 1)) (individual x)) (refl, (refl, (refl, tt)))
  finds-either-at k (SomeEntry r d) x = finds_test failure_numbers (7 ∷ (2 * k + 1) ∷ x ∷ []) (either_part m b k x (SomeEntry r d)) (Either (concept (2 * k + 1)) (individual x)) (refl, (refl, (refl, tt)))
  finds-either-at k (Unlisted kind) x = finds_test failure_numbers (7 ∷ (2 * k + 1) ∷ x ∷ []) (either_part m b k x (Unlisted kind)) (Either (concept (2 * k + 1)) (individual x)) (refl, (refl, (refl, tt)))

  pub finds-either-part : Finds failure_numbers (7 ∷ []) (condition7 m b ≡ true) EitherFound (first_of_entries m b EitherPart)
  finds-either-part = finds-entries 7 (λ k. 2 * k + 1) doubled-more EitherPart (either_part m b) finds-either-at

  abbrev pub SomeFound : Failure → Type 0
  SomeFound = EntryFound (λ k e x f. (f ≡ SomeFailure (concept (2 * k)) (individual x)) × (some_reached m b k x e ≡ false))

  finds-some-at : (k : ℕ) (e : Entry) (x : ℕ) → Finds failure_numbers (8 ∷ (2 * k) ∷ x ∷ []) (some_reached m b k x e ≡ true) (λ f. (f ≡ SomeFailure (concept (2 * k)) (individual x)) × (some_reached m b k x e ≡ false)) (entry_at m b SomeReached (concept (2 * k)) e x)
  finds-some-at k Top x = finds_test failure_numbers (8 ∷ (2 * k) ∷ x ∷ []) (some_reached m b k x Top) (SomeFailure (concept (2 * k)) (individual x)) (refl, (refl, (refl, tt)))
  finds-some-at k Name x = finds_test failure_numbers (8 ∷ (2 * k) ∷ x ∷ []) (some_reached m b k x Name) (SomeFailure (concept (2 * k)) (individual x)) (refl, (refl, (refl, tt)))
  finds-some-at k (BothEntry d e) x = finds_test failure_numbers (8 ∷ (2 * k) ∷ x ∷ []) (some_reached m b k x (BothEntry d e)) (SomeFailure (concept (2 * k)) (individual x)) (refl, (refl, (refl, tt)))
  finds-some-at k (SomeEntry r d) x = finds_test failure_numbers (8 ∷ (2 * k) ∷ x ∷ []) (some_reached m b k x (SomeEntry r d)) (SomeFailure (concept (2 * k)) (individual x)) (refl, (refl, (refl, tt)))
  finds-some-at k (Unlisted kind) x = finds_test failure_numbers (8 ∷ (2 * k) ∷ x ∷ []) (some_reached m b k x (Unlisted kind)) (SomeFailure (concept (2 * k)) (individual x)) (refl, (refl, (refl, tt)))

  pub finds-some-reached : Finds failure_numbers (8 ∷ []) (condition8 m b ≡ true) SomeFound (first_of_entries m b SomeReached)
  finds-some-reached = finds-entries 8 (λ k. 2 * k) doubled SomeReached (some_reached m b) finds-some-at

  -- r goes from x to y, and ~d is not held of y
  abbrev pub reached : Role → Concept → ℕ → ℕ → Bool
  reached r d x y = not (held m b (Joins r (individual x) (individual y))) || held m b (Is (complement d) (individual y))

  abbrev pub AllAt : ℕ → Entry → ℕ → Failure → Type 0
  AllAt k Top x f = ⊥
  AllAt k Name x f = ⊥
  AllAt k (BothEntry d e) x f = ⊥
  AllAt k (SomeEntry r d) x f =
      (holds m b (2 * k + 1) x ≡ true) × ((y : ℕ) × (y < b.individuals) × ((f ≡ All (concept (2 * k + 1)) (individual x) (individual y)) × (reached r d x y ≡ false)))
  AllAt k (Unlisted kind) x f = ⊥

  finds_all_at : (k : ℕ) (e : Entry) (x : ℕ) → Finds failure_numbers (4 ∷ (2 * k + 1) ∷ x ∷ []) (all_reached m b k x e ≡ true) (AllAt k e x) (entry_at m b AllReached (concept (2 * k + 1)) e x)
  finds_all_at k Top x = finds_like failure_numbers (λ _. refl) (λ _. tt) (λ f s. s) (λ f s. s) (finds-nothing failure_numbers _)
  finds_all_at k Name x = finds_like failure_numbers (λ _. refl) (λ _. tt) (λ f s. s) (λ f s. s) (finds-nothing failure_numbers _)
  finds_all_at k (BothEntry d e) x = finds_like failure_numbers (λ _. refl) (λ _. tt) (λ f s. s) (λ f s. s) (finds-nothing failure_numbers _)
  finds_all_at k (SomeEntry r d) x =
      let c = decides_implies (holds m b (2 * k + 1) x) (all_under (reached r d x) b.individuals) (decides_true (holds m b (2 * k + 1) x)) (decides_all_under (λ y. decides_true (reached r d x y)) b.individuals) in
      finds_like failure_numbers c.1 c.0 (λ f s. s) (λ f s. s)
      (finds_where failure_numbers (holds m b (2 * k + 1) x)
      (finds_under failure_numbers (4 ∷ (2 * k + 1) ∷ x ∷ []) (λ y. y) as_told
      (λ y. finds_test failure_numbers (4 ∷ (2 * k + 1) ∷ x ∷ y ∷ []) (reached r d x y) (All (concept (2 * k + 1)) (individual x) (individual y)) (refl, (refl, (refl, (refl, tt)))))
      b.individuals))
  finds_all_at k (Unlisted kind) x = finds_like failure_numbers (λ _. refl) (λ _. tt) (λ f s. s) (λ f s. s) (finds-nothing failure_numbers _)

  abbrev pub AllFound : Failure → Type 0
  AllFound = EntryFound AllAt

  pub finds_all_reached : Finds failure_numbers (4 ∷ []) (condition4 m b ≡ true) AllFound (first_of_entries m b AllReached)
  finds_all_reached = finds-entries 4 (λ k. 2 * k + 1) doubled-more AllReached (all_reached m b) finds_all_at

  -- by an inclusion (c, d), neither ~c nor d is held
  abbrev pub decided_at : InclusionRow → ℕ → Bool
  decided_at i x = held m b (Is (complement i.sub) (individual x)) || held m b (Is i.sup (individual x))

  abbrev pub InclusionFound : Failure → Type 0
  InclusionFound f =
      (n : ℕ) × (n < length m.inclusions) × ((i : InclusionRow) × (row_at m.inclusions n ≡ Ok i)
      × ((x : ℕ) × (x < b.individuals) × ((blocked m b x ≡ false) × ((f ≡ Inclusion n (individual x)) × (decided_at i x ≡ false)))))

  pub finds_inclusion : Finds failure_numbers (5 ∷ []) (condition5 m b ≡ true) InclusionFound (first_inclusion m b)
  finds_inclusion =
      let d = decides_every (λ i. decides_unblocked m b {P = λ x. decided_at i x.0 ≡ true} (λ x. decides_true (decided_at i x))) m.inclusions in
      finds_like failure_numbers
      (λ h. d.1 (λ n i there x lx clear. h n (row_at-found m.inclusions n i there) i there x.0 lx clear))
      (λ t n _ i there x lx clear. d.0 t n i there (individual x) lx clear)
      (λ f s. s) (λ f s. s)
      (finds_under failure_numbers (5 ∷ []) (λ n. n) as_told
      (λ n. finds-row failure_numbers
      (λ i. finds_under failure_numbers (5 ∷ n ∷ []) (λ x. x) as_told
      (λ x. finds-unless failure_numbers (blocked m b x) (finds_test failure_numbers (5 ∷ n ∷ x ∷ []) (decided_at i x) (Inclusion n (individual x)) (refl, (refl, (refl, tt)))))
      b.individuals)
      (row_at m.inclusions n))
      (length m.inclusions))

  -- by a key, two individuals of the base are not decided
  abbrev pub KeyFound : Failure → Type 0
  KeyFound f =
      (n : ℕ) × (n < length m.keys) × ((key : KeyRow) × (row_at m.keys n ≡ Ok key)
      × ((x : ℕ) × (x < m.individuals) × ((y : ℕ) × (y < m.individuals) × ((f ≡ Key n (individual x) (individual y)) × (key_kept m b key x y ≡ false)))))

  pub finds_key : Finds failure_numbers (6 ∷ []) (condition6 m b ≡ true) KeyFound (first_key m b)
  finds_key =
      let d = decides_every (λ key. decides_all_under (λ x. decides_all_under (λ y. decides_true (key_kept m b key x y)) m.individuals) m.individuals) m.keys in
      finds_like failure_numbers
      (λ h. d.1 (λ n key there. h n (row_at-found m.keys n key there) key there))
      (λ t n _ key there. d.0 t n key there)
      (λ f s. s) (λ f s. s)
      (finds_under failure_numbers (6 ∷ []) (λ n. n) as_told
      (λ n. finds-row failure_numbers
      (λ key. finds_under failure_numbers (6 ∷ n ∷ []) (λ x. x) as_told
      (λ x. finds_under failure_numbers (6 ∷ n ∷ x ∷ []) (λ y. y) as_told
      (λ y. finds_test failure_numbers (6 ∷ n ∷ x ∷ y ∷ []) (key_kept m b key x y) (Key n (individual x) (individual y)) (refl, (refl, (refl, (refl, tt)))))
      m.individuals)
      m.individuals)
      (row_at m.keys n))
      (length m.keys))
