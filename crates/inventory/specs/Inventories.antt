-- What an inventory lists.
use Rattle.std.specs.Prelude.{◌≡◌, ℕ, suc, ◌+◌, ◌*◌, Bool, cond, ◌&&◌, List, [], ◌∷◌, ◌++◌, map, length, take, nat_le, refl}
use Rattle.std.proofs.Common.{arith}
use Rattle.std.proofs.lemmas.List.{length-map}
use Rattle.kb.specs.declared.axioms.Assertion.{Assertion}
use Rattle.kb.specs.declared.axioms.Assertion.TheVariants.{Is, Joins}
use Rattle.kb.specs.declared.lexicon.Entry.{Entry}
use Rattle.kb.specs.declared.names.Role.{Role}
use Rattle.kb.specs.Meanings.{Meaning, Owed, empty_meaning}
use Rattle.kb.specs.Numbers.{entry_numbers, assertion_numbers}
use Rattle.kb.specs.Telling.{tell, tell_entry, tell_assertion, entry_tellable, assertion_tellable, each-told}
use Rattle.inventory.specs.declared.contents.Columns.{Columns}
use Rattle.inventory.specs.declared.contents.Inventory.{Inventory}
use Rattle.inventory.specs.declared.contents.Record.{Record}

-- The individuals are the records and then the values: with r records, value v is individual r + v.
abbrev pub has_value : Role → ℕ → ℕ → ℕ → Assertion
has_value column r i v = Joins column (record { 0 = i }) (record { 0 = r + v })

-- The four assertions that record i of r gives: its class, and its value in each column.
abbrev pub record_rows : Columns → ℕ → ℕ → Record → List Assertion
record_rows columns r i x =
    Is x.class (record { 0 = i }) ∷ has_value columns.issuer r i x.issuer ∷ has_value columns.serial r i x.serial
    ∷ has_value columns.public_key r i x.public_key ∷ []

-- Those of every record, the first of which is record i.
abbrev pub rows_from : Columns → ℕ → ℕ → List Record → List Assertion
rows_from columns r i [] = []
rows_from columns r i (x ∷ xs) = record_rows columns r i x ++ rows_from columns r (suc i) xs

-- Records in columns, with a lexicon and so many roles and values.
abbrev pub column_meaning : List Entry → ℕ → Columns → List Record → ℕ → Meaning
column_meaning lexicon roles columns records values =
    record {
      entries = map tell_entry lexicon;
      roles = tell roles;
      individuals = length records + values;
      assertions = map tell_assertion (rows_from columns (length records) 0 records);
      inclusions = [];
      keys = [];
    }

-- An inventory lists at most 100 records and 140 values.
abbrev pub listed : ℕ → ℕ → Bool
listed records values = nat_le records 100 && nat_le values 140

-- Above either limit it lists nothing.
abbrev pub inventory_meaning : List Entry → ℕ → Columns → List Record → ℕ → Meaning
inventory_meaning lexicon roles columns records values =
    cond (listed (length records) values) (column_meaning (take 65535 lexicon) roles columns records values) empty_meaning

-- What a made inventory lists: it holds no more than it lists.
abbrev pub contents_of : Inventory → Meaning
contents_of s = column_meaning s.lexicon.now s.roles s.columns s.records.now s.values

-- What is owed of it. The implementation names this proof.
pub length-rows_from : (columns : Columns) (r i : ℕ) (xs : List Record) → length (rows_from columns r i xs) ≡ 4 * length xs
length-rows_from columns r i [] = refl
length-rows_from columns r i (x ∷ xs) = omega (arith, length-rows_from columns r (suc i) xs)

pub inventory_owed : (s : Inventory) → Owed (contents_of s)
inventory_owed s =
    let es = s.lexicon.now in
    let xs = s.records.now in
    let rows = rows_from s.columns (length xs) 0 xs in
    record {
      entries =
          record {
            short = omega (arith, length-map es tell_entry, s.short);
            small = each-told entry_numbers tell_entry entry_tellable es;
          };
      roles = omega arith;
      individuals = omega (arith, s.few, s.small);
      assertions =
          record {
            short = omega (arith, length-map rows tell_assertion, length-rows_from s.columns (length xs) 0 xs, s.few);
            small = each-told assertion_numbers tell_assertion assertion_tellable rows;
          };
      inclusions = record { short = omega arith; small = tt };
      keys = record { short = omega arith; small = tt };
    }
