-- On a branch whose rows lie as they should, a new individual is equal to none but itself.
use Rattle.std.proofs.Common.{◌≡◌, ◌⊎◌, sym, refl, ap, ◌∙◌, subst, inl, inr, ⊎_elim, arith}
use Rattle.std.proofs.lemmas.Bool.{cases_lt}
use Rattle.rows.specs.Rows.{row_at}
use Rattle.kb.specs.declared.axioms.Assertion.TheVariants.{Joins}
use Rattle.kb.specs.declared.names.Individual.{Individual}
use Rattle.kb.specs.declared.names.Role.{Role}
use Rattle.kb.specs.Meanings.{Meaning}
use Rattle.calculus.proofs.EqualityLaws.{head_reached}
use Rattle.calculus.specs.declared.row_kinds.RoleRow.{RoleRow}
use Rattle.calculus.specs.Branches.{Branch, Equal, chained, head_of, same, self, turned}
use Rattle.calculus.specs.Holding.{Held}
use Rattle.calculus.proofs.Accepting.{Ok_injective}
use Rattle.theorem.specs.Placed.{New, OfBase, Placed}

-- equal individuals are one, or both are of the base
pub Equal-cases :
    (m : Meaning) (b : Branch) → Placed m b → {x y : Individual} → Equal b.pairs x y → (x ≡ y) ⊎ (OfBase m x × OfBase m y)
Equal-cases m b k (same {x = x} {y = y} n e) = inr (k.same_rows n x y e)
Equal-cases m b k self = inl refl
Equal-cases m b k (turned e) = ⊎_elim (λ q. inl (sym q)) (λ h. inr (h.1, h.0)) (Equal-cases m b k e)
Equal-cases m b k (chained {x = x} {y = y} {z = z} e f) =
    ⊎_elim
    (λ q. subst (λ v. (v ≡ z) ⊎ (OfBase m v × OfBase m z)) (sym q) (Equal-cases m b k f))
    (λ h. ⊎_elim (λ q. inr (h.0, subst (OfBase m) q h.1)) (λ g. inr (h.0, g.1)) (Equal-cases m b k f))
    (Equal-cases m b k e)

module _ (m : Meaning) (b : Branch) (placed : Placed m b) where
  -- a new individual is equal to none but itself
  pub new_alone : (x y : Individual) → Equal b.pairs x y → New m x → x ≡ y
  new_alone x y e h = ⊎_elim (λ q. q) (λ p. let l = p.0 in absurd (omega arith)) (Equal-cases m b placed e)

  pub new_alone_right : (x y : Individual) → Equal b.pairs x y → New m y → x ≡ y
  new_alone_right x y e h = sym (new_alone y x (turned e) h)

  -- so it is its own head
  pub head_of_new : (x : Individual) → New m x → head_of b.pairs x.0 ≡ x.0
  head_of_new x h = ap (λ (y : Individual). y.0) (sym (new_alone x (record { 0 = head_of b.pairs x.0 }) (head_reached b.pairs x) h))

  -- what is equal to an individual of the base is one
  pub base-equal : (x y : Individual) → Equal b.pairs x y → OfBase m x → OfBase m y
  base-equal x y e h = ⊎_elim (λ q. subst (OfBase m) q h) (λ p. p.1) (Equal-cases m b placed e)

  pub base-equal-left : (x y : Individual) → Equal b.pairs x y → OfBase m y → OfBase m x
  base-equal-left x y e h = base-equal y x (turned e) h

  -- a role that is held into an individual of the base is held from one
  pub held_into_base : (r : Role) (x z : Individual) → Held m b (Joins r x z) → OfBase m z → OfBase m x
  held_into_base r x z (n, w, e, f, g, h) o =
      base-equal w.from x g (placed.into_base n w e (base-equal-left w.to z h o))

  -- those that are joined to one new individual are equal
  pub joined_to_new : (r s : Role) (x y z : Individual) → Held m b (Joins r x z) → Held m b (Joins s y z) → New m z → Equal b.pairs x y
  joined_to_new r s x y z (j, v, ev, _, fv, tv) (k, w, ew, _, fw, tw) h =
      let p : v.to ≡ z = new_alone_right v.to z tv h in
      let q : w.to ≡ z = new_alone_right w.to z tw h in
      let n : j ≡ k = placed.one_into_new j k v w ev ew (p ∙ sym q) (subst (New m) (sym q) h) in
      let one : v ≡ w = Ok_injective (sym ev ∙ ap (row_at b.roles) n ∙ ew) in
      chained (turned fv) (subst (λ (u : RoleRow). Equal b.pairs u.from y) (sym one) fw)

  -- so two that share a value are equal, or both are of the base
  pub sharing-cases : (r s : Role) (x y z : Individual) → Held m b (Joins r x z) → Held m b (Joins s y z) → Equal b.pairs x y ⊎ (OfBase m x × OfBase m y)
  sharing-cases r s x y z f g =
      ⊎_elim (λ l. inr (held_into_base r x z f l, held_into_base s y z g l)) (λ l. inl (joined_to_new r s x y z f g l)) (cases_lt z.0 m.individuals)
