-- Bytes written over the front of a buffer, part by part.
use Rattle.std.proofs.Common.{◌≡◌, ℕ, ◌+◌, ◌-◌, ◌≤◌, List, [], ◌++◌, length, take, drop, sym, ap, ◌∙◌, append_assoc, append-nil, arith, length-append, length-drop}
use borrow.Rule.Slice.PartMut.{put_mid}
use Rattle.std.proofs.lemmas.List.{take_at, drop_at, take_rest, drop_all, drop-drop}
use Rattle.std.proofs.lemmas.List.Concat.{flat_map-append}
use Rattle.casewriter.specs.Encoding.{bytes_of, two_bytes}
use Rattle.casewriter.specs.Writing.{over}

-- what is written over the part of a buffer from an offset on is written behind what lies before the offset
pub part-over : (more buf part : List ℕ) (at : ℕ) → part ≡ over more (take (length buf - at) (drop at buf)) → put_mid at (length buf - at) buf part ≡ take at buf ++ over more (drop at buf)
part-over more buf part at told =
    let none : drop (length buf - at) (drop at buf) ≡ [] = drop_all (length buf - at) (drop at buf) (omega (arith, length-drop at buf)) in
    let all : part ≡ over more (drop at buf) = told ∙ ap (over more) (take_rest buf at) in
    rw (none, append-nil part, all)

-- so it is written behind the bytes written so far
pub over-behind : (before front more buf after : List ℕ) (at : ℕ) → length front ≡ at → buf ≡ over front before → after ≡ take at buf ++ over more (drop at buf) → after ≡ over (front ++ more) before
over-behind before front more buf after at long is told =
    let first : take at buf ≡ front = ap (take at) is ∙ take_at front (drop (length front) before) at long in
    let rest : drop at buf ≡ drop (length front) before = ap (drop at) is ∙ drop_at front (drop (length front) before) at long in
    let behind : drop (length more) (drop (length front) before) ≡ drop (length (front ++ more)) before =
    drop-drop (length more) (length front) before ∙ ap (λ (n : ℕ). drop n before) (sym (length-append front more)) in
    told ∙ rw (first, rest, behind) (sym (append_assoc front more (drop (length (front ++ more)) before)))

pub over-more : (before front more buf part : List ℕ) (at : ℕ) → length front ≡ at → buf ≡ over front before → part ≡ over more (take (length buf - at) (drop at buf)) → put_mid at (length buf - at) buf part ≡ over (front ++ more) before
over-more before front more buf part at long is told =
    over-behind before front more buf _ at long is (part-over more buf part at told)

-- the same, where just the bytes to write are lent
pub over-next : (before front more buf part : List ℕ) (at n : ℕ) → length front ≡ at → buf ≡ over front before → part ≡ more → n ≡ length more → put_mid at n buf part ≡ over (front ++ more) before
over-next before front more buf part at n long is told wide =
    over-behind before front more buf _ at long is (rw (told, wide))

-- what was written goes in
pub over-within : (before front buf : List ℕ) → buf ≡ over front before → length front ≤ length buf
over-within before front buf is = omega (arith, ap length is, length-append front (drop (length front) before))

pub length-behind : (ns ms : List ℕ) → length (bytes_of (ns ++ ms)) ≡ length (bytes_of ns) + length (bytes_of ms)
length-behind ns ms = ap length (flat_map-append two_bytes ns ms) ∙ length-append (bytes_of ns) (bytes_of ms)

-- A buffer holds the bytes of some numbers, up to an offset, and behind them what it held before.
pub record Holds (before ns : List ℕ) (at : ℕ) (buf : List ℕ) : Type 0 where
  pub size : at ≡ length (bytes_of ns)
  pub bytes : buf ≡ over (bytes_of ns) before

pub holds-behind : {before ns buf : List ℕ} {at : ℕ} (ms after : List ℕ) (end : ℕ) → Holds before ns at buf → end ≡ at + length (bytes_of ms) → after ≡ take at buf ++ over (bytes_of ms) (drop at buf) → Holds before (ns ++ ms) end after
holds-behind {before} {ns} {buf} {at} ms after end h long told =
    record {
      size = omega (arith, h.size, length-behind ns ms);
      bytes =
          over-behind before (bytes_of ns) (bytes_of ms) buf after at (sym h.size) h.bytes told
          ∙ ap (λ (bs : List ℕ). over bs before) (sym (flat_map-append two_bytes ns ms));
    }
