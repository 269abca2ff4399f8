-- How the hops to a visit are read back.
use Rattle.std.proofs.Common.{◌≡◌, ◌<◌, ◌++◌, ◌+◌, ℕ, List, [], ◌∷◌, Option, Some, None, reverse, slice_get, length, refl, sym, ap, subst, ◌∙◌, arith, append_assoc}
use Rattle.std.proofs.lemmas.List.{reverse-append}
use Rattle.std.proofs.lemmas.Option.{slice_get_within}
use Rattle.nomos_equality.specs.declared.hop.Hop.{Hop}
use Rattle.nomos_equality.specs.declared.difference.Origin.{Origin}
use Rattle.nomos_equality.specs.declared.difference.TypeVisit.{TypeVisit}
use Rattle.nomos_equality.specs.mirror.Search.{Trail, begins, onward, AreInOrder}

-- the visit at which the reading stands, whose origin is known
pub record IsTrailFrom (visits : List TypeVisit) (number : ℕ) (from : Option Origin) (path : List Hop) : Type 0 where
  pub at : ℕ
  pub visit : TypeVisit
  pub there : slice_get visits at ≡ Some visit
  pub from_is : visit.from ≡ from
  pub leads : (front : List Hop) → Trail visits at front → Trail visits number (front ++ reverse path)

-- one more than the visit from which the hop came
abbrev pub trail_measure : Option Origin → ℕ
trail_measure None = 0
trail_measure (Some o) = o.visit + 1

-- one hop further
pub trail-onward : (visits : List TypeVisit) (number : ℕ) (o : Origin) (path : List Hop) (v : TypeVisit)
    → IsTrailFrom visits number (Some o) path → slice_get visits o.visit ≡ Some v
    → IsTrailFrom visits number v.from (path ++ o.hop ∷ [])
trail-onward visits number o path v trail found =
    record {
      at = o.visit;
      visit = v;
      there = found;
      from_is = refl;
      leads = λ front before.
          subst (λ (l : List Hop). Trail visits number l)
          (append_assoc front (o.hop ∷ []) (reverse path)
          ∙ ap (λ (l : List Hop). front ++ l) (sym (reverse-append path (o.hop ∷ []))))
          (trail.leads (front ++ o.hop ∷ []) (onward trail.at trail.visit o front trail.there trail.from_is before));
    }

-- at the beginning
pub trail-ends : (visits : List TypeVisit) (number : ℕ) (path : List Hop) → IsTrailFrom visits number None path
    → Trail visits number (reverse path)
trail-ends visits number path trail = trail.leads [] (begins trail.at trail.visit trail.there trail.from_is)

-- the next visit is there
pub trail-inside : (visits : List TypeVisit) (number : ℕ) (o : Origin) (path : List Hop) → AreInOrder visits
    → IsTrailFrom visits number (Some o) path → o.visit < length visits
trail-inside visits number o path order trail =
    let earlier = order trail.at trail.visit o trail.there trail.from_is in
    let inside = slice_get_within visits trail.at trail.visit trail.there in
    omega arith
