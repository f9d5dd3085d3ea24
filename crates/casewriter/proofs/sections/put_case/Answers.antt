use Rattle.std.proofs.Common.{ℕ, List, length, ap, ◌∙◌, arith}
use Rattle.kb.specs.declared.fault.RowList.TheVariants.{Entries, Assertions, Inclusions, Keys}
use Rattle.kb.specs.Meanings.{counts_of}
use Rattle.casewriter.specs.Encoding.{bytes_of, header_numbers, section_numbers}
use Rattle.casewriter.specs.Writing.{over}
use Rattle.casewriter.proofs.Overwriting.{Holds, holds-behind}
use Rattle.casewriter.proofs.SectionLaws.{length-parts}
use Rattle.casewriter.proofs.sections.put_case.Goals as goal

pub put_section-inclusions_at-requires : goal.put_section-inclusions_at-requires
put_section-inclusions_at-requires g c =
    omega (arith, length-parts (g.B.Base.meaning c.args.base.now), ap (λ (ns : List ℕ). length (bytes_of ns)) c.from.ensures)

pub put_section-keys_at-requires : goal.put_section-keys_at-requires
put_section-keys_at-requires g c =
    omega (arith, length-parts (g.B.Base.meaning c.args.base.now), ap (λ (ns : List ℕ). length (bytes_of ns)) c.from.ensures)

pub put_section-requires : goal.put_section-requires
put_section-requires g c =
    omega (arith, length-parts (g.B.Base.meaning c.args.base.now), ap (λ (ns : List ℕ). length (bytes_of ns)) c.from.ensures)

pub returns : goal.returns
returns g c =
    let m = g.B.Base.meaning c.args.base.now in
    let before = c.args.buffer.now in
    let header : Holds before (header_numbers (counts_of m)) c.put_all-entries_at.result c.put_all-entries_at.new.out =
    record {
      size = c.put_all-entries_at.ensures.size ∙ ap (λ (ns : List ℕ). length (bytes_of ns)) (c.from.ensures ∙ ap header_numbers c.counts.ensures);
      bytes = c.put_all-entries_at.ensures.bytes ∙ ap (λ (ns : List ℕ). over (bytes_of ns) before) (c.from.ensures ∙ ap header_numbers c.counts.ensures);
    } in
    let entries = holds-behind (section_numbers m Entries) _ _ header c.put_section-assertions_at.ensures.end c.put_section-assertions_at.ensures.bytes in
    let assertions = holds-behind (section_numbers m Assertions) _ _ entries c.put_section-inclusions_at.ensures.end c.put_section-inclusions_at.ensures.bytes in
    let inclusions = holds-behind (section_numbers m Inclusions) _ _ assertions c.put_section-keys_at.ensures.end c.put_section-keys_at.ensures.bytes in
    let keys = holds-behind (section_numbers m Keys) _ _ inclusions c.put_section.ensures.end c.put_section.ensures.bytes in
    record { size = keys.size; bytes = keys.bytes }
