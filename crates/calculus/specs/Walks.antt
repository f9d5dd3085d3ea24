-- Walks, and the interpretation that they are.
use Rattle.std.specs.Prelude.{ℕ, zero, suc, ◌*◌, ◌/◌, ◌%◌, Bool, true, false, cond, not, ◌&&◌, ◌||◌, List, [], ◌∷◌, ◌++◌, Ok, Err, Result, ◌==◌, nat_lt}
use Rattle.std.specs.List.{list_any}
use Rattle.rows.specs.declared.fault.RowFault.{RowFault}
use Rattle.rows.specs.Rows.{row_at}
use Rattle.kb.specs.declared.axioms.Assertion.TheVariants.{Is, Joins}
use Rattle.kb.specs.declared.lexicon.Entry.{Entry}
use Rattle.kb.specs.declared.lexicon.Entry.TheVariants.{Top, Name, Both as BothEntry, Some as SomeEntry, Unlisted}
use Rattle.kb.specs.declared.names.Individual.{Individual}
use Rattle.kb.specs.declared.names.Role.{Role}
use Rattle.kb.specs.Interpretations.{Interpretation}
use Rattle.kb.specs.Meanings.{Meaning}
use Rattle.calculus.specs.declared.row_kinds.RoleRow.{RoleRow}
use Rattle.calculus.specs.Branches.{Branch, equal, head_of, held}
use Rattle.calculus.specs.Review.{blocked, blocker, individual, new, some_under}

module _ (m : Meaning) (b : Branch) where
  -- Where a walk goes for a new individual s: to s, or to its blocker if it is blocked.
  abbrev pub target : ℕ → ℕ
  target s = cond (blocked m b s) (blocker m b s) s

  -- Some role joins u to s.
  abbrev pub some_role : ℕ → ℕ → Bool
  some_role u s = list_any (λ (r : RoleRow). equal b.pairs r.from (individual u) && equal b.pairs r.to (individual s)) b.roles

  -- After u comes v: it is where a walk goes for some new individual that a role joins u to.
  abbrev pub after : ℕ → ℕ → Bool
  after u v = some_under (λ s. new m b s && (some_role u s && target s == v)) b.individuals

  -- The same for one role.
  abbrev pub after_by : Role → ℕ → ℕ → Bool
  after_by r u v = some_under (λ s. new m b s && (held m b (Joins r (individual u) (individual s)) && target s == v)) b.individuals

  -- A walk begins at the head of a base individual, and goes on step by step.
  abbrev pub goes_on : ℕ → List ℕ → Bool
  goes_on u [] = true
  goes_on u (v ∷ w) = after u v && goes_on v w

  unfoldable pub walk : List ℕ → Bool
  walk [] = false
  walk (u ∷ w) = (nat_lt u m.individuals && head_of b.pairs u == u) && goes_on u w

  -- The individual at which a walk ends.
  abbrev pub last_from : ℕ → List ℕ → ℕ
  last_from u [] = u
  last_from u (v ∷ w) = last_from v w

  -- A role joins two walks of one individual where it is held, and a walk to a longer one by a new individual at its end.
  abbrev pub joins_from : Role → ℕ → List ℕ → List ℕ → Bool
  joins_from r u [] [] = false
  joins_from r u [] (v ∷ []) = after_by r u v
  joins_from r u [] (v ∷ v' ∷ w) = false
  joins_from r u (v ∷ w) [] = false
  joins_from r u (v ∷ w) (v' ∷ w') = v == v' && joins_from r v w w'

  unfoldable pub joins_walks : Role → List ℕ → List ℕ → Bool
  joins_walks r [] f = false
  joins_walks r (u ∷ w) [] = false
  joins_walks r (u ∷ []) (v ∷ []) = held m b (Joins r (individual u) (individual v))
  joins_walks r (u ∷ []) (v ∷ v' ∷ w) = u == v && joins_from r u [] (v' ∷ w)
  joins_walks r (u ∷ v ∷ w) (v' ∷ w') = u == v' && joins_from r u (v ∷ w) w'

  -- A name is yes where it is held of the last individual.
  abbrev pub named_at : ℕ → List ℕ → Bool
  named_at c [] = false
  named_at c (u ∷ w) = held m b (Is (record { 0 = c }) (individual (last_from u w)))

  -- What entry k comes to at a walk, where `sense` is what earlier entries come to. A walk is joined to walks of one
  -- individual, and to walks that go one individual further.
  abbrev pub entry_at : (List ℕ → ℕ → Bool) → List ℕ → ℕ → Entry → Bool
  entry_at sense e k Top = true
  entry_at sense e k Name = named_at (2 * k) e
  entry_at sense e k (BothEntry c d) = sense e c.0 && sense e d.0
  entry_at sense e k (SomeEntry r c) =
      some_under
      (λ y. (walk (y ∷ []) && (joins_walks r e (y ∷ []) && sense (y ∷ []) c.0))
      || (walk (e ++ y ∷ []) && (joins_walks r e (e ++ y ∷ []) && sense (e ++ y ∷ []) c.0)))
      b.individuals
  entry_at sense e k (Unlisted kind) = false

  abbrev pub row_entry_at : (List ℕ → ℕ → Bool) → List ℕ → ℕ → Result Entry RowFault → Bool
  row_entry_at sense e k (Ok entry) = entry_at sense e k entry
  row_entry_at sense e k (Err f) = false

  -- Concepts of the first so many entries at a walk.
  unfoldable pub sense_up_to : ℕ → List ℕ → ℕ → Bool
  sense_up_to zero e c = false
  sense_up_to (suc k) e c =
      cond (c / 2 == k)
      (cond (c % 2 == 0) (row_entry_at (sense_up_to k) e k (row_at m.entries k)) (not (row_entry_at (sense_up_to k) e k (row_at m.entries k))))
      (sense_up_to k e c)

  unfoldable pub sense : List ℕ → ℕ → Bool
  sense e c = sense_up_to (suc (c / 2)) e c

  -- The walk of a base individual: its head alone. Any other number is given the walk of individual 0.
  abbrev pub walk_of : Individual → List ℕ
  walk_of x = cond (nat_lt x.0 m.individuals) (head_of b.pairs x.0 ∷ []) (head_of b.pairs 0 ∷ [])

  -- The walks as an interpretation.
  abbrev pub walks : Interpretation
  walks =
      record {
        element = walk;
        some = walk_of (individual 0);
        individual = walk_of;
        concept = λ e c. sense e c.0;
        joins = joins_walks;
      }
