-- What a sheet is: four ledgers of rows, and the numbers that it remembers.
use Rattle.std.specs.Prelude.{ℕ, Bool, ◌&&◌, length, ◌==◌, nat_le}
use Rattle.std.specs.List.{list_all}
use Rattle.kb.specs.declared.counts.Counts.{Counts}
use Rattle.kb.specs.Meanings.{Meaning, counts_of}
use Rattle.kb.specs.Range.{concept_in_range, role_in_range}
use Rattle.ledger.specs.Books.{Book, size}
use Rattle.calculus.specs.declared.lengths.Lengths.{Lengths}
use Rattle.calculus.specs.declared.row_kinds.ConceptRow.{ConceptRow}
use Rattle.calculus.specs.declared.row_kinds.PairRow.{PairRow}
use Rattle.calculus.specs.declared.row_kinds.PairRow.TheVariants.{Same as SameRow, Different as DifferentRow}
use Rattle.calculus.specs.declared.row_kinds.PendingRow.{PendingRow}
use Rattle.calculus.specs.declared.row_kinds.RoleRow.{RoleRow}
use Rattle.calculus.specs.Branches.{Branch}
use Rattle.calculus.specs.Table.{below}

-- The four ledgers: concept rows, role rows, same and different rows, and pending right sides.
pub record Ledgers : Type 0 where
  pub concepts : Book ConceptRow
  pub roles : Book RoleRow
  pub pairs : Book PairRow
  pub pending : Book PendingRow

-- What a sheet remembers: the counts of its base, the sizes of its ledgers and how many rows each has, its individuals, the
-- steps accepted since opening, and whether it is closed.
pub record Numbers : Type 0 where
  pub base : Counts
  pub sizes : Lengths
  pub rows : Lengths
  pub individuals : ℕ
  pub steps : ℕ
  pub closed : Bool

pub record State : Type 0 where
  pub ledgers : Ledgers
  pub numbers : Numbers

-- The branch that is being worked on.
abbrev pub branch_of : Ledgers → ℕ → Branch
branch_of l n = record { concepts = l.concepts.rows; roles = l.roles.rows; pairs = l.pairs.rows; individuals = n }

abbrev pub branch : State → Branch
branch s = branch_of s.ledgers s.numbers.individuals

-- How many rows and how many places the ledgers have.
abbrev pub row_counts : Ledgers → Lengths
row_counts l =
    record {
      concepts = length l.concepts.rows;
      roles = length l.roles.rows;
      pairs = length l.pairs.rows;
      pending = length l.pending.rows;
    }

abbrev pub sizes_of : Ledgers → Lengths
sizes_of l = record { concepts = size l.concepts; roles = size l.roles; pairs = size l.pairs; pending = size l.pending }

abbrev pub same_lengths : Lengths → Lengths → Bool
same_lengths a b = a.concepts == b.concepts && (a.roles == b.roles && (a.pairs == b.pairs && a.pending == b.pending))

abbrev pub same_counts : Counts → Counts → Bool
same_counts a b =
    (a.entries == b.entries) && (a.roles == b.roles && (a.individuals == b.individuals
    && (a.assertions == b.assertions && (a.inclusions == b.inclusions && a.keys == b.keys))))

module _ (base : Counts) (n : ℕ) where
  -- A row names only concepts and roles of the base, and individuals of the sheet.
  abbrev pub concept_row_fits : ConceptRow → Bool
  concept_row_fits r = concept_in_range base r.concept && below n r.individual

  abbrev pub role_row_fits : RoleRow → Bool
  role_row_fits r = role_in_range base r.role && (below n r.from && below n r.to)

  abbrev pub pair_row_fits : PairRow → Bool
  pair_row_fits (SameRow x y) = below n x && below n y
  pair_row_fits (DifferentRow x y) = below n x && below n y

  -- A pending row names a concept of the base, and an individual of those noted; what it notes is no more than there is,
  -- and of individuals no fewer than the base has.
  abbrev pub pending_row_fits : Lengths → PendingRow → Bool
  pending_row_fits rows p =
      concept_in_range base p.side.concept && (below p.individuals p.side.individual
      && (nat_le base.individuals p.individuals && (nat_le p.individuals n
      && (nat_le p.concepts rows.concepts && (nat_le p.roles rows.roles && nat_le p.pairs rows.pairs)))))

  abbrev pub rows_fit : Ledgers → Bool
  rows_fit l =
      list_all concept_row_fits l.concepts.rows && (list_all role_row_fits l.roles.rows
      && (list_all pair_row_fits l.pairs.rows && list_all (pending_row_fits (row_counts l)) l.pending.rows))

-- The base and the ledgers are the sheet's: equal counts, sizes and numbers of rows, and every row within base and sheet.
abbrev pub fits : Meaning → State → Bool
fits m s =
    same_counts (counts_of m) s.numbers.base && (same_lengths (sizes_of s.ledgers) s.numbers.sizes
    && (same_lengths (row_counts s.ledgers) s.numbers.rows && rows_fit s.numbers.base s.numbers.individuals s.ledgers))
