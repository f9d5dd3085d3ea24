-- Shared values end where pairs or values do.
use Rattle.std.proofs.Common.{◌≡◌, ◌⊎◌, List, [], ◌∷◌, refl, ap, ◌∙◌, ⊎_elim}
use Rattle.kb.specs.declared.axioms.RolePair.{RolePair}
use Rattle.kb.specs.declared.names.Individual.{Individual}
use Rattle.calculus.specs.Table.{sharing}

module _ (x y : Individual) where
  no_values : (ps : List RolePair) → sharing x y ps [] ≡ []
  no_values [] = refl
  no_values (p ∷ ps) = refl

  pub sharing-over : (ps : List RolePair) (zs : List Individual) → (ps ≡ []) ⊎ (zs ≡ []) → sharing x y ps zs ≡ []
  sharing-over ps zs = ⊎_elim (λ e. ap (λ l. sharing x y l zs) e) (λ e. ap (sharing x y ps) e ∙ no_values ps)
