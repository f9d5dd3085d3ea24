-- What writing facts appends, where it has room, and what is held afterwards.
use Rattle.std.proofs.Common.{◌≡◌, ℕ, ◌+◌, ◌≤◌, true, false, ltb, List, [], ◌∷◌, ◌++◌, length, Ok, Err, Result, sym, refl, ap, ◌∙◌, subst, ⊎_elim, arith}
use Rattle.std.proofs.lemmas.List.{append_assoc, append-nil, length-append}
use Rattle.std.proofs.lemmas.Bool.{cases_Bool, cond-false, cond-true, lt-ltb}
use Rattle.kb.specs.declared.axioms.Assertion.{Assertion}
use Rattle.kb.specs.declared.axioms.Assertion.TheVariants.{Is, Joins, Same, Different, Unlisted}
use Rattle.kb.specs.Meanings.{Meaning}
use Rattle.ledger.specs.Books.{Book, filled, push, size}
use Rattle.calculus.specs.declared.fault.StepFault.{StepFault}
use Rattle.calculus.specs.declared.fault.StepFault.TheVariants.{Full}
use Rattle.calculus.specs.Branches.{Branch, held}
use Rattle.calculus.specs.Playing.{Written, free, room, rows_of, write, write_missing}
use Rattle.calculus.specs.States.{Ledgers, branch_of, sizes_of}
use Rattle.calculus.specs.HeldLaws.{Extends}
use Rattle.calculus.specs.StepLaws.{appended, concept_rows, missing, pair_rows, role_rows}

concept_rows_cons : (a : Assertion) (facts : List Assertion) → concept_rows (a ∷ facts) ≡ concept_rows (a ∷ []) ++ concept_rows facts
concept_rows_cons (Is c x) facts = refl
concept_rows_cons (Joins r x y) facts = refl
concept_rows_cons (Same x y) facts = refl
concept_rows_cons (Different x y) facts = refl
concept_rows_cons (Unlisted kind) facts = refl

role_rows_cons : (a : Assertion) (facts : List Assertion) → role_rows (a ∷ facts) ≡ role_rows (a ∷ []) ++ role_rows facts
role_rows_cons (Is c x) facts = refl
role_rows_cons (Joins r x y) facts = refl
role_rows_cons (Same x y) facts = refl
role_rows_cons (Different x y) facts = refl
role_rows_cons (Unlisted kind) facts = refl

pair_rows_cons : (a : Assertion) (facts : List Assertion) → pair_rows (a ∷ facts) ≡ pair_rows (a ∷ []) ++ pair_rows facts
pair_rows_cons (Is c x) facts = refl
pair_rows_cons (Joins r x y) facts = refl
pair_rows_cons (Same x y) facts = refl
pair_rows_cons (Different x y) facts = refl
pair_rows_cons (Unlisted kind) facts = refl

-- no fact behind a branch is the branch; one fact and then others are the facts
pub appended-none : (b : Branch) → appended [] b ≡ b
appended-none b = λ i. record { concepts = append-nil b.concepts i; roles = append-nil b.roles i; pairs = append-nil b.pairs i; individuals = b.individuals }

pub appended_cons : (a : Assertion) (facts : List Assertion) (b : Branch) → appended facts (appended (a ∷ []) b) ≡ appended (a ∷ facts) b
appended_cons a facts b =
    let c = append_assoc b.concepts (concept_rows (a ∷ [])) (concept_rows facts) ∙ ap (λ rows. b.concepts ++ rows) (sym (concept_rows_cons a facts)) in
    let r = append_assoc b.roles (role_rows (a ∷ [])) (role_rows facts) ∙ ap (λ rows. b.roles ++ rows) (sym (role_rows_cons a facts)) in
    let p = append_assoc b.pairs (pair_rows (a ∷ [])) (pair_rows facts) ∙ ap (λ rows. b.pairs ++ rows) (sym (pair_rows_cons a facts)) in
    λ i. record { concepts = c i; roles = r i; pairs = p i; individuals = b.individuals }

pub appended_extends : (facts : List Assertion) (b : Branch) → Extends b (appended facts b)
appended_extends facts b =
    record {
      more_concepts = concept_rows facts;
      more_roles = role_rows facts;
      more_pairs = pair_rows facts;
      concepts = refl;
      roles = refl;
      pairs = refl;
    }

module _ {A : Type 0} where
  -- rows in free places, behind the rows that there were
  pub record Behind (new : List A) (b b' : Book A) : Type 0 where
    pub rows : b'.rows ≡ b.rows ++ new
    pub places : length b.free ≡ length new + length b'.free

  pub behind-none : (b : Book A) → Behind [] b b
  behind-none b = record { rows = sym (append-nil b.rows); places = omega arith }

  filled-behind : (x : A) (rows free : List A) → ltb 0 (length free) ≡ true → Behind (x ∷ []) (record { rows = rows; free = free }) (filled x rows free)
  filled-behind x rows [] h = let z : ◌≡◌ {A = ℕ} 0 1 = cc in absurd (omega arith)
  filled-behind x rows (y ∷ ys) h = record { rows = refl; places = omega arith }

  pub push-behind : (x : A) (b : Book A) → free b ≡ true → Behind (x ∷ []) b (push x b)
  push-behind x b h = filled-behind x b.rows b.free h

  pub behind_trans : (xs ys : List A) (b b' b'' : Book A) → Behind xs b b' → Behind ys b' b'' → Behind (xs ++ ys) b b''
  behind_trans xs ys b b' b'' h k =
      record {
        rows = k.rows ∙ ap (λ rows. rows ++ ys) h.rows ∙ append_assoc b.rows xs ys;
        places = omega (arith, h.places, k.places, length-append xs ys);
      }

  pub behind-size : (new : List A) (b b' : Book A) → Behind new b b' → size b' ≡ size b
  behind-size new b b' h = omega (arith, h.places, ap length h.rows, length-append b.rows new)

-- what facts as rows make of ledgers
pub record Appended (facts : List Assertion) (l l' : Ledgers) : Type 0 where
  pub concepts : Behind (concept_rows facts) l.concepts l'.concepts
  pub roles : Behind (role_rows facts) l.roles l'.roles
  pub pairs : Behind (pair_rows facts) l.pairs l'.pairs
  pub pending : l'.pending ≡ l.pending

pub write-appended : (a : Assertion) (l : Ledgers) → room a l ≡ true → Appended (a ∷ []) l (write a l)
write-appended (Is c x) l h =
    record { concepts = push-behind _ l.concepts h; roles = behind-none l.roles; pairs = behind-none l.pairs; pending = refl }
write-appended (Joins r x y) l h =
    record { concepts = behind-none l.concepts; roles = push-behind _ l.roles h; pairs = behind-none l.pairs; pending = refl }
write-appended (Same x y) l h =
    record { concepts = behind-none l.concepts; roles = behind-none l.roles; pairs = push-behind _ l.pairs h; pending = refl }
write-appended (Different x y) l h =
    record { concepts = behind-none l.concepts; roles = behind-none l.roles; pairs = push-behind _ l.pairs h; pending = refl }
write-appended (Unlisted kind) l h =
    record { concepts = behind-none l.concepts; roles = behind-none l.roles; pairs = behind-none l.pairs; pending = refl }

pub appended_nothing : (l : Ledgers) → Appended [] l l
appended_nothing l = record { concepts = behind-none l.concepts; roles = behind-none l.roles; pairs = behind-none l.pairs; pending = refl }

pub appended-further : (a : Assertion) (facts : List Assertion) (l l' l'' : Ledgers) → Appended (a ∷ []) l l' → Appended facts l' l'' → Appended (a ∷ facts) l l''
appended-further a facts l l' l'' h k =
    record {
      concepts = rw (concept_rows_cons a facts) (behind_trans _ _ l.concepts l'.concepts l''.concepts h.concepts k.concepts);
      roles = rw (role_rows_cons a facts) (behind_trans _ _ l.roles l'.roles l''.roles h.roles k.roles);
      pairs = rw (pair_rows_cons a facts) (behind_trans _ _ l.pairs l'.pairs l''.pairs h.pairs k.pairs);
      pending = k.pending ∙ h.pending;
    }

-- the branch of ledgers with facts behind is the branch with the facts behind
pub appended-branch : (facts : List Assertion) (l l' : Ledgers) (n : ℕ) → Appended facts l l' → branch_of l' n ≡ appended facts (branch_of l n)
appended-branch facts l l' n h = λ i. record { concepts = h.concepts.rows i; roles = h.roles.rows i; pairs = h.pairs.rows i; individuals = n }

pub appended-sizes : (facts : List Assertion) (l l' : Ledgers) → Appended facts l l' → sizes_of l' ≡ sizes_of l
appended-sizes facts l l' h =
    let c = behind-size _ l.concepts l'.concepts h.concepts in
    let r = behind-size _ l.roles l'.roles h.roles in
    let p = behind-size _ l.pairs l'.pairs h.pairs in
    let d = ap size h.pending in
    λ i. record { concepts = c i; roles = r i; pairs = p i; pending = d i }

-- places for facts, by kind
pub record Places (facts : List Assertion) (l : Ledgers) : Type 0 where
  pub concepts : length (concept_rows facts) ≤ length l.concepts.free
  pub roles : length (role_rows facts) ≤ length l.roles.free
  pub pairs : length (pair_rows facts) ≤ length l.pairs.free

pub appended-places : (facts : List Assertion) (l l' : Ledgers) → Appended facts l l' → Places facts l
appended-places facts l l' h =
    record { concepts = omega (arith, h.concepts.places); roles = omega (arith, h.roles.places); pairs = omega (arith, h.pairs.places) }

-- the first of facts has a place, and the others then
places-first : (a : Assertion) (facts : List Assertion) (l : Ledgers) → Places (a ∷ facts) l → room a l ≡ true
places-first (Is c x) facts l h = lt-ltb 0 (length l.concepts.free) (omega (arith, h.concepts))
places-first (Joins r x y) facts l h = lt-ltb 0 (length l.roles.free) (omega (arith, h.roles))
places-first (Same x y) facts l h = lt-ltb 0 (length l.pairs.free) (omega (arith, h.pairs))
places-first (Different x y) facts l h = lt-ltb 0 (length l.pairs.free) (omega (arith, h.pairs))
places-first (Unlisted kind) facts l h = refl

places-further : (a : Assertion) (facts : List Assertion) (l l' : Ledgers) → Appended (a ∷ []) l l' → Places (a ∷ facts) l → Places facts l'
places-further a facts l l' h k =
    record {
      concepts = omega (arith, h.concepts.places, k.concepts, ap length (concept_rows_cons a facts), length-append (concept_rows (a ∷ [])) (concept_rows facts));
      roles = omega (arith, h.roles.places, k.roles, ap length (role_rows_cons a facts), length-append (role_rows (a ∷ [])) (role_rows facts));
      pairs = omega (arith, h.pairs.places, k.pairs, ap length (pair_rows_cons a facts), length-append (pair_rows (a ∷ [])) (pair_rows facts));
    }

-- how many rows facts are
abbrev pub rows_in : List Assertion → ℕ
rows_in facts = length (concept_rows facts) + (length (role_rows facts) + length (pair_rows facts))

rows_in_cons : (a : Assertion) (facts : List Assertion) → rows_in (a ∷ facts) ≡ rows_of a + rows_in facts
rows_in_cons (Is c x) facts = omega arith
rows_in_cons (Joins r x y) facts = omega arith
rows_in_cons (Same x y) facts = omega arith
rows_in_cons (Different x y) facts = omega arith
rows_in_cons (Unlisted kind) facts = omega arith

module _ (m : Meaning) where
  -- a fact that is held is not missing; another one is, and then what is missing behind it
  pub missing-held : (b : Branch) (a : Assertion) (facts : List Assertion) → held m b a ≡ true → missing m b (a ∷ facts) ≡ missing m b facts
  missing-held b a facts h = cond-true (held m b a) _ _ h

  pub missing-more : (b : Branch) (a : Assertion) (facts : List Assertion) → held m b a ≡ false → missing m b (a ∷ facts) ≡ a ∷ missing m (appended (a ∷ []) b) facts
  missing-more b a facts h = cond-false (held m b a) _ _ h

  module _ (n : ℕ) where
    abbrev lacking : List Assertion → Written → List Assertion
    lacking facts w = missing m (branch_of w.ledgers n) facts

    abbrev further : Assertion → Written → Written
    further a w = record { ledgers = write a w.ledgers; rows = w.rows + rows_of a }

    lacking-further : (a : Assertion) (facts : List Assertion) (w : Written) → held m (branch_of w.ledgers n) a ≡ false → room a w.ledgers ≡ true → lacking (a ∷ facts) w ≡ a ∷ lacking facts (further a w)
    lacking-further a facts w h r =
        missing-more (branch_of w.ledgers n) a facts h
        ∙ ap (λ b. a ∷ missing m b facts) (sym (appended-branch (a ∷ []) w.ledgers (write a w.ledgers) n (write-appended a w.ledgers r)))

    write_missing-held : (a : Assertion) (facts : List Assertion) (w : Written) → held m (branch_of w.ledgers n) a ≡ true → write_missing m n (a ∷ facts) w ≡ write_missing m n facts w
    write_missing-held a facts w h = cond-true (held m (branch_of w.ledgers n) a) _ _ h

    write_missing-further : (a : Assertion) (facts : List Assertion) (w : Written) → held m (branch_of w.ledgers n) a ≡ false → room a w.ledgers ≡ true → write_missing m n (a ∷ facts) w ≡ write_missing m n facts (further a w)
    write_missing-further a facts w h r = cond-false (held m (branch_of w.ledgers n) a) _ _ h ∙ cond-true (room a w.ledgers) _ _ r

    write_missing-full : (a : Assertion) (facts : List Assertion) (w : Written) → held m (branch_of w.ledgers n) a ≡ false → room a w.ledgers ≡ false → write_missing m n (a ∷ facts) w ≡ Err Full
    write_missing-full a facts w h r = cond-false (held m (branch_of w.ledgers n) a) _ _ h ∙ cond-false (room a w.ledgers) _ _ r

    -- what is written is what is missing, and it is counted
    pub record Wrote (new : List Assertion) (w w' : Written) : Type 0 where
      pub appended : Appended new w.ledgers w'.ledgers
      pub rows : w'.rows ≡ w.rows + rows_in new

    pub write_missing-wrote : (facts : List Assertion) (w w' : Written) → write_missing m n facts w ≡ Ok w' → Wrote (missing m (branch_of w.ledgers n) facts) w w'
    write_missing-wrote [] w w' e = let p : w ≡ w' = cc in subst (Wrote [] w) p (record { appended = appended_nothing w.ledgers; rows = omega arith })
    write_missing-wrote (a ∷ facts) w w' e =
        ⊎_elim
        (λ h. subst (λ new. Wrote new w w') (sym (missing-held (branch_of w.ledgers n) a facts h)) (write_missing-wrote facts w w' (sym (write_missing-held a facts w h) ∙ e)))
        (λ h. ⊎_elim
        (λ r.
        let k = write_missing-wrote facts (further a w) w' (sym (write_missing-further a facts w h r) ∙ e) in
        subst (λ new. Wrote new w w') (sym (lacking-further a facts w h r))
        (record {
          appended = appended-further a (lacking facts (further a w)) w.ledgers (write a w.ledgers) w'.ledgers (write-appended a w.ledgers r) k.appended;
          rows = omega (arith, k.rows, rows_in_cons a (lacking facts (further a w)));
        }))
        (λ r. let q : ◌≡◌ {A = Result Written StepFault} (Err Full) (Ok w') = sym (write_missing-full a facts w h r) ∙ e in
        let z : ◌≡◌ {A = ℕ} 0 1 = cc in absurd (omega arith))
        (cases_Bool (room a w.ledgers)))
        (cases_Bool (held m (branch_of w.ledgers n) a))

    -- with places for what is missing it is written
    pub write_missing-room : (facts : List Assertion) (w : Written) → Places (missing m (branch_of w.ledgers n) facts) w.ledgers → (w' : Written) × (write_missing m n facts w ≡ Ok w')
    write_missing-room [] w h = (w, refl)
    write_missing-room (a ∷ facts) w k =
        ⊎_elim
        (λ h.
        let j = subst (λ new. Places new w.ledgers) (missing-held (branch_of w.ledgers n) a facts h) k in
        let r = write_missing-room facts w j in
        (r.0, write_missing-held a facts w h ∙ r.1))
        (λ h.
        let i = subst (λ new. Places new w.ledgers) (missing-more (branch_of w.ledgers n) a facts h) k in
        let f = places-first a (missing m (appended (a ∷ []) (branch_of w.ledgers n)) facts) w.ledgers i in
        let j = subst (λ new. Places new w.ledgers) (lacking-further a facts w h f) k in
        let r = write_missing-room facts (further a w) (places-further a (lacking facts (further a w)) w.ledgers (write a w.ledgers) (write-appended a w.ledgers f) j) in
        (r.0, write_missing-further a facts w h f ∙ r.1))
        (cases_Bool (held m (branch_of w.ledgers n) a))
