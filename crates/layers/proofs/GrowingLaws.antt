-- What one pair more makes of a key's pairs and of the keys of a layer.
use Rattle.std.proofs.Common.{◌≡◌, ℕ, zero, suc, ◌<◌, ◌≤◌, List, [], ◌∷◌, ◌++◌, map, length, take, drop, set, Ok, Err, Result, sym, refl, ap, ◌∙◌, arith}
use Rattle.std.proofs.lemmas.List.{length-map, length-set}
use Rattle.std.proofs.Math.Seq.{take-append_seam}
use Rattle.std.specs.List.{refill}
use Rattle.std.specs.Result.{result_map_both}
use Rattle.rows.specs.declared.fault.RowFault.{RowFault}
use Rattle.rows.specs.declared.fault.RowFault.TheVariants.{NoSuchRow}
use Rattle.rows.specs.Rows.{row_at}
use Rattle.rows.proofs.RowLaws.{row_at-map, row_at_mapped, row_at-found, row_at-refused}
use Rattle.kb.specs.declared.axioms.RolePair.{RolePair}
use Rattle.kb.specs.declared.axioms.RolePairs.{RolePairs}
use Rattle.kb.specs.declared.axioms.RolePairs.TheVariants.{One, Two, Three, Four}
use Rattle.kb.specs.Numbers.{pair_list}
use Rattle.layers.specs.declared.fault.LayerFault.{LayerFault}
use Rattle.layers.specs.declared.fault.LayerFault.TheVariants.{Full, Row}
use Rattle.layers.specs.declared.rules.LinkKey.{LinkKey}
use Rattle.layers.specs.Growing.{with_pair, PairMore, KeyGrown}
use Rattle.layers.specs.Views.{link_of}

-- a list written at one place, as a slice, is the list with that place set
pub refill-set : {X : Type 0} (xs : List X) (n : ℕ) (y : X) → refill (length xs) xs (set xs n y) ≡ set xs n y
refill-set xs n y =
    ap (λ m. take m (set xs n y ++ drop (length (set xs n y)) xs)) (sym (length-set xs n y)) ∙ take-append_seam (set xs n y) _

pub row_at-set-same : {X : Type 0} (xs : List X) (n : ℕ) (x y : X) → row_at xs n ≡ Ok x → row_at (set xs n y) n ≡ Ok y
row_at-set-same [] n x y e = let z : ◌≡◌ {A = ℕ} 0 1 = cc in absurd (omega arith)
row_at-set-same (x' ∷ xs) zero x y e = refl
row_at-set-same (x' ∷ xs) (suc n) x y e = row_at-set-same xs n x y e

pub row_at_set_other : {X : Type 0} (xs : List X) (n k : ℕ) (y : X) → (k ≡ n → ⊥) → row_at (set xs n y) k ≡ row_at xs k
row_at_set_other [] n k y h = refl
row_at_set_other (x ∷ xs) zero zero y h = absurd (h refl)
row_at_set_other (x ∷ xs) zero (suc k) y h = refl
row_at_set_other (x ∷ xs) (suc n) zero y h = refl
row_at_set_other (x ∷ xs) (suc n) (suc k) y h = row_at_set_other xs n k y (λ e. h (ap suc e))

module _ (p : RolePair) where
  put-behind : (before more : RolePairs) → with_pair p before ≡ Ok more → pair_list more ≡ pair_list before ++ p ∷ []
  put-behind (One a) more e = let q : Two a p ≡ more = cc in ap pair_list (sym q)
  put-behind (Two a b) more e = let q : Three a b p ≡ more = cc in ap pair_list (sym q)
  put-behind (Three a b c) more e = let q : Four a b c p ≡ more = cc in ap pair_list (sym q)
  put-behind (Four a b c d) more e = let z : ◌≡◌ {A = ℕ} 0 1 = cc in absurd (omega arith)

  put-below : (before more : RolePairs) → with_pair p before ≡ Ok more → length (pair_list before) < 4
  put-below (One a) more e = omega arith
  put-below (Two a b) more e = omega arith
  put-below (Three a b c) more e = omega arith
  put-below (Four a b c d) more e = let z : ◌≡◌ {A = ℕ} 0 1 = cc in absurd (omega arith)

  full_fault : (before : RolePairs) (f : LayerFault) → with_pair p before ≡ Err f → (4 ≤ length (pair_list before)) × (f ≡ Full)
  full_fault (One a) f e = let z : ◌≡◌ {A = ℕ} 0 1 = cc in absurd (omega arith)
  full_fault (Two a b) f e = let z : ◌≡◌ {A = ℕ} 0 1 = cc in absurd (omega arith)
  full_fault (Three a b c) f e = let z : ◌≡◌ {A = ℕ} 0 1 = cc in absurd (omega arith)
  full_fault (Four a b c d) f e = (omega arith, cc)

  pub pair_put : (before more : RolePairs) → with_pair p before ≡ Ok more → PairMore p before (Ok tt) more
  pair_put before more e =
      record {
        put = λ _. (refl, put-behind before more e);
        full = λ h. absurd (omega (arith, put-below before more e));
      }

  pub pair_refused : (before : RolePairs) (f : LayerFault) (r : Result (Unit {0}) LayerFault) → with_pair p before ≡ Err f → r ≡ Err f → PairMore p before r before
  pair_refused before f r e q =
      let t = full_fault before f e in
      record {
        put = λ h. absurd (omega (arith, t.0));
        full = λ _. (rw (q, t.1) refl, refl);
      }

  module _ (ks : List LinkKey) (n : ℕ) where
    -- there is no key n
    pub no_key : (f : RowFault) (r : Result (Unit {0}) LayerFault) → row_at ks n ≡ Err f → r ≡ Err (Row f) → KeyGrown n p (map link_of ks) r (map link_of ks)
    no_key NoSuchRow r e q =
        record {
          known = λ h. absurd (omega (arith, row_at-refused ks n NoSuchRow e, length-map ks link_of));
          unknown = λ _. (rw q refl, refl);
        }

    -- key n is full
    pub full_key : (k : LinkKey) (f : LayerFault) (r : Result (Unit {0}) LayerFault) → row_at ks n ≡ Ok k → with_pair p k.pairs ≡ Err f → r ≡ Err f → KeyGrown n p (map link_of ks) r (map link_of ks)
    full_key k f r e w q =
        record {
          known = λ _.
              record {
                first = k.first;
                second = k.second;
                pairs = k.pairs;
                more = k.pairs;
                was = row_at-map link_of ks n k e;
                is = row_at-map link_of ks n k e;
                grown = pair_refused k.pairs f r w q;
                others = λ _ _. refl;
              };
          unknown = λ h. absurd (omega (arith, row_at-found ks n k e, length-map ks link_of));
        }

    -- key n grows
    pub grown_key : (k : LinkKey) (more : RolePairs) (after : List LinkKey) → row_at ks n ≡ Ok k → with_pair p k.pairs ≡ Ok more → after ≡ set ks n (record { first = k.first; second = k.second; pairs = more }) → KeyGrown n p (map link_of ks) (Ok tt) (map link_of after)
    grown_key k more after e w a =
        let new : LinkKey = record { first = k.first; second = k.second; pairs = more } in
        record {
          known = λ _.
              record {
                first = k.first;
                second = k.second;
                pairs = k.pairs;
                more = more;
                was = row_at-map link_of ks n k e;
                is = row_at-map link_of after n new (ap (λ (l : List LinkKey). row_at l n) a ∙ row_at-set-same ks n k new e);
                grown = pair_put k.pairs more w;
                others = λ j d.
                    row_at_mapped link_of after j ∙ ap (λ (l : List LinkKey). result_map_both link_of (λ x. x) (row_at l j)) a
                    ∙ ap (result_map_both link_of (λ x. x)) (row_at_set_other ks n j new d) ∙ sym (row_at_mapped link_of ks j);
              };
          unknown = λ h. absurd (omega (arith, row_at-found ks n k e, length-map ks link_of));
        }
