-- Interpretations, and what they satisfy.
use Rattle.std.specs.Prelude.{◌≡◌, ℕ, ◌+◌, ◌*◌, ◌<◌, Bool, true, not, ◌↔◌, List, length, Ok}
use Rattle.rows.specs.Rows.{row_at}
use Rattle.kb.specs.declared.axioms.Assertion.{Assertion}
use Rattle.kb.specs.declared.axioms.Assertion.TheVariants.{Is, Joins, Same, Different, Unlisted as UnlistedAssertion}
use Rattle.kb.specs.declared.axioms.Inclusion.{Inclusion as InclusionRow}
use Rattle.kb.specs.declared.axioms.Key.{Key as KeyRow}
use Rattle.kb.specs.declared.axioms.Key.TheVariants.{Link, Unlisted as UnlistedKey}
use Rattle.kb.specs.declared.axioms.RolePair.{RolePair}
use Rattle.kb.specs.declared.lexicon.Entry.{Entry}
use Rattle.kb.specs.declared.lexicon.Entry.TheVariants.{Top, Name, Both, Some, Unlisted}
use Rattle.kb.specs.declared.names.Concept.{Concept}
use Rattle.kb.specs.declared.names.Individual.{Individual}
use Rattle.kb.specs.declared.names.Role.{Role}
use Rattle.kb.specs.declared.statement.Statement.{Statement}
use Rattle.kb.specs.declared.statement.Statement.TheVariants.{Key, Inclusion, Same as SameStatement}
use Rattle.kb.specs.Meanings.{Meaning}
use Rattle.kb.specs.Numbers.{pair_list}

-- An interpretation has a set of elements, each a finite list of numbers, finite or endless, and one that is surely among
-- them. It gives each individual an element, and says yes or no for each element and concept, and for each role and two
-- elements.
pub record Interpretation : Type 0 where
  pub element : List ℕ → Bool
  pub some : List ℕ
  pub individual : Individual → List ℕ
  pub concept : List ℕ → Concept → Bool
  pub joins : Role → List ℕ → List ℕ → Bool

module _ (I : Interpretation) where
  -- Something is an element; an element is in a concept; a role joins two elements.
  abbrev pub Element : List ℕ → Type 0
  Element e = I.element e ≡ true

  abbrev pub In : Concept → List ℕ → Type 0
  In c e = I.concept e c ≡ true

  abbrev pub Joined : Role → List ℕ → List ℕ → Type 0
  Joined r e f = I.joins r e f ≡ true

  -- Some element is one that r joins e to, and in c.
  abbrev pub JoinedInto : Role → Concept → List ℕ → Type 0
  JoinedInto r c e = (f : List ℕ) × Element f × Joined r e f × In c f

  -- What entry k says of an element e: TOP is yes everywhere, BOTH exactly where both are, SOME exactly where the role joins
  -- to some element in the concept. A name says nothing.
  abbrev pub EntryAt : List ℕ → ℕ → Entry → Type 0
  EntryAt e k Top = In (record { 0 = 2 * k }) e
  EntryAt e k Name = Unit {0}
  EntryAt e k (Both c d) = In (record { 0 = 2 * k }) e ↔ (In c e × In d e)
  EntryAt e k (Some r c) = In (record { 0 = 2 * k }) e ↔ JoinedInto r c e
  EntryAt e k (Unlisted kind) = Unit {0}

  -- The laws of an interpretation of a lexicon. There is an element, and individuals are elements; concept 0 is yes
  -- everywhere; of each entry k there is, 2k+1 is yes exactly where 2k is no, and 2k is as the entry says.
  pub record Lawful (lexicon : List Entry) : Type 0 where
    pub inhabited : Element I.some
    pub individuals : (x : Individual) → Element (I.individual x)
    pub top : (e : List ℕ) → Element e → In (record { 0 = 0 }) e
    pub complement : (e : List ℕ) (k : ℕ) → Element e → k < length lexicon → I.concept e (record { 0 = 2 * k + 1 }) ≡ not (I.concept e (record { 0 = 2 * k }))
    pub entries : (e : List ℕ) (k : ℕ) (entry : Entry) → Element e → row_at lexicon k ≡ Ok entry → EntryAt e k entry

  -- An assertion is satisfied in the plain sense; one of an unlisted kind never is.
  abbrev pub Asserted : Assertion → Type 0
  Asserted (Is c x) = In c (I.individual x)
  Asserted (Joins r x y) = Joined r (I.individual x) (I.individual y)
  Asserted (Same x y) = I.individual x ≡ I.individual y
  Asserted (Different x y) = I.individual x ≡ I.individual y → ⊥
  Asserted (UnlistedAssertion kind) = ⊥

  -- An inclusion is satisfied if its second concept is yes wherever its first is.
  abbrev pub Included : Concept → Concept → Type 0
  Included c d = (e : List ℕ) → Element e → In c e → In d e

  -- The two roles of a pair join e and f to a common element.
  abbrev pub Share : List ℕ → List ℕ → RolePair → Type 0
  Share e f p = (g : List ℕ) × Element g × Joined p.left e g × Joined p.right f g

  -- A key is satisfied if an element in its first class and one in its second are one when they share a value by each pair.
  abbrev pub Keyed : Concept → Concept → List RolePair → Type 0
  Keyed c d pairs =
      (e f : List ℕ) → Element e → Element f → In c e → In d f
      → ((n : ℕ) (p : RolePair) → row_at pairs n ≡ Ok p → Share e f p)
      → e ≡ f

  abbrev pub KeyedRow : KeyRow → Type 0
  KeyedRow (Link c d pairs) = Keyed c d (pair_list pairs)
  KeyedRow (UnlistedKey count) = ⊥

  -- An interpretation satisfies a base if it satisfies its every assertion, inclusion and key.
  pub record Satisfies (m : Meaning) : Type 0 where
    pub assertions : (n : ℕ) (a : Assertion) → row_at m.assertions n ≡ Ok a → Asserted a
    pub inclusions : (n : ℕ) (i : InclusionRow) → row_at m.inclusions n ≡ Ok i → Included i.sub i.sup
    pub keys : (n : ℕ) (k : KeyRow) → row_at m.keys n ≡ Ok k → KeyedRow k

  -- What it is to satisfy an asked statement.
  abbrev pub SatisfiesStatement : Statement → Type 0
  SatisfiesStatement (Key c d pairs) = Keyed c d (pair_list pairs)
  SatisfiesStatement (Inclusion i) = Included i.sub i.sup
  SatisfiesStatement (SameStatement a b) = I.individual a ≡ I.individual b
