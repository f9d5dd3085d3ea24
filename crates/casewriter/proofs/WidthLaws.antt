-- How many numbers a row takes, and a section.
use Rattle.std.proofs.Common.{◌≡◌, ◌*◌, length, refl}
use Rattle.kb.specs.declared.axioms.Assertion.{Assertion}
use Rattle.kb.specs.declared.axioms.Assertion.TheVariants.{Is, Joins, Same, Different, Unlisted as UnlistedAssertion}
use Rattle.kb.specs.declared.axioms.Inclusion.{Inclusion}
use Rattle.kb.specs.declared.axioms.Key.{Key}
use Rattle.kb.specs.declared.axioms.Key.TheVariants.{Link, Unlisted as UnlistedKey}
use Rattle.kb.specs.declared.axioms.RolePairs.TheVariants.{One, Two, Three, Four}
use Rattle.kb.specs.declared.fault.RowList.{RowList}
use Rattle.kb.specs.declared.fault.RowList.TheVariants.{Entries, Assertions, Inclusions, Keys}
use Rattle.kb.specs.declared.lexicon.Entry.{Entry}
use Rattle.kb.specs.declared.lexicon.Entry.TheVariants.{Top, Name, Both, Some, Unlisted}
use Rattle.kb.specs.Check.{count_of}
use Rattle.kb.specs.Meanings.{Meaning, counts_of}
use Rattle.kb.specs.Numbers.{entry_numbers, assertion_numbers, inclusion_numbers, key_numbers}
use Rattle.casewriter.specs.Encoding.{section_numbers, width_of}
use Rattle.casewriter.proofs.ByteLaws.{length-joined}

pub length_entry : (e : Entry) → length (entry_numbers e) ≡ 3
length_entry Top = refl
length_entry Name = refl
length_entry (Both c d) = refl
length_entry (Some r c) = refl
length_entry (Unlisted kind) = refl

pub length_assertion : (a : Assertion) → length (assertion_numbers a) ≡ 4
length_assertion (Is c x) = refl
length_assertion (Joins r x y) = refl
length_assertion (Same x y) = refl
length_assertion (Different x y) = refl
length_assertion (UnlistedAssertion kind) = refl

pub length_inclusion : (i : Inclusion) → length (inclusion_numbers i) ≡ 2
length_inclusion i = refl

pub length_key : (k : Key) → length (key_numbers k) ≡ 11
length_key (Link c d (One p)) = refl
length_key (Link c d (Two p q)) = refl
length_key (Link c d (Three p q s)) = refl
length_key (Link c d (Four p q s t)) = refl
length_key (UnlistedKey count) = refl

pub length_section : (m : Meaning) (list : RowList) → length (section_numbers m list) ≡ width_of list * count_of (counts_of m) list
length_section m Entries = length-joined entry_numbers 3 length_entry m.entries
length_section m Assertions = length-joined assertion_numbers 4 length_assertion m.assertions
length_section m Inclusions = length-joined inclusion_numbers 2 length_inclusion m.inclusions
length_section m Keys = length-joined key_numbers 11 length_key m.keys
