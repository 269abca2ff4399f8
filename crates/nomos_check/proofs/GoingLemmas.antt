-- Along the code, from one standing to the next.
use Rattle.std.proofs.Common.{◌≡◌, inl, inr, ⊎_elim, ℕ, List, [], ◌∷◌, refl, ap, ◌∙◌, arith}
use Rattle.std.proofs.lemmas.List.Elements.{All-nil, All-cons}
use Rattle.nomos_ir.specs.declared.lists.ProgramLists.{ProgramLists}
use Rattle.nomos_ir.specs.Amounts.{star_count}
use Rattle.nomos_types.proofs.InversionLaws.{row-descends}
use Rattle.nomos_types.proofs.OccurrenceLaws.{contains-head}
use Rattle.nomos_types.specs.Equality.{no_amounts}
use Rattle.nomos_types.specs.Judgement.{Judgement}
use Rattle.nomos_types.specs.TypingRule.{TypingRule}
use Rattle.nomos_types.specs.Typed.{IsWellFormed}
use Rattle.nomos_check.proofs.GatherLemmas.{grows-same, grows-through, done-grows, gathers-none, gathers-through}
use Rattle.nomos_check.proofs.LeavingLemmas.{leaves-none, leaves-next, leaves-along, reached-next, open-along}
use Rattle.nomos_check.proofs.VisitLemmas.{visits-grows, visits-gathers}
use Rattle.nomos_check.proofs.WeightLemmas.{weight-positive, weight-rises, forks-light, work-one}
use Rattle.nomos_check.specs.Account.{Account}
use Rattle.nomos_check.specs.Reaching.{Outset}
use Rattle.nomos_check.specs.declared.standing.Forks.{Forks}
use Rattle.nomos_check.specs.declared.standing.Standing.{Standing}
use Rattle.nomos_check.specs.declared.code_walk.CodeWalk.{CodeWalk}
use Rattle.nomos_check.specs.mirror.StandingData.{shape_of, HasAccount, LeadsTo, LeadsAlong}
use Rattle.nomos_check.specs.mirror.Walking.{IsReached, IsOpen, Visits, Going, Goes, Gathers, Grows, width}

module _ (lists : ProgramLists) where
  abbrev stars : ℕ
  stars = star_count lists

  -- at the beginning
  pub going-start : (s : Standing) (w : CodeWalk) → Going lists stars s s w w
  going-start s w = record {
    not_later = omega arith;
    todo = refl;
    grows = grows-same;
    complete = λ j a at. inr at;
    gathers = λ o r. gathers-none;
    reached = λ o r. r;
  }

  module _ (formed : IsWellFormed lists) (first s : Standing) (old between new : CodeWalk)
      (going : Going lists stars first s old between) (visits : Visits lists s between new)
      (left : new.todo ≡ between.todo) (a : Account) (has : HasAccount stars s a) where
    grown : Grows old new
    grown = grows-through going.grows (visits-grows visits a has)

    gathered : (o : Outset) → IsReached lists stars o first → Gathers lists stars o old new
    gathered o r = gathers-through (going.gathers o r) (visits-grows visits a has) (visits-gathers visits
        (going.reached o r))

    -- to the next instruction
    pub going-next : (next : Standing) → LeadsTo lists s next → Going lists stars first next old new
    going-next next leads = record {
      not_later =
          let lower = row-descends formed leads.row (contains-head (shape_of next) (shape_of next) [] refl) in
          let before = going.not_later in
          omega arith;
      todo = left ∙ going.todo;
      grows = grown;
      complete =
          λ j b at.
          ⊎_elim (λ done. inl (done-grows (visits-grows visits a has) done))
          (λ there. leaves-next formed.program visits next leads j b there) (going.complete j b at);
      gathers = gathered;
      reached = λ o r. reached-next leads (going.reached o r);
    }

    -- to the end
    pub goes-end : ((after : List Judgement) → TypingRule lists no_amounts (shape_of s) after → after ≡ [])
        → Goes lists stars first old new
    goes-end ends = record {
      added = [];
      todo = left ∙ going.todo;
      light = let some = weight-positive (width lists) first.code.0 in omega arith;
      grows = grown;
      complete =
          λ j b at.
          ⊎_elim (λ done. inl (done-grows (visits-grows visits a has) done))
          (λ there. inl (leaves-none formed.program visits ends j b there)) (going.complete j b at);
      gathers = gathered;
      is_open = λ o r. All-nil (IsOpen lists stars o);
    }

  -- into several ways
  pub goes-along : (formed : IsWellFormed lists) (first : Standing) (f : Forks) (old between new : CodeWalk)
      → Going lists stars first f.before old between → Visits lists f.before between new
      → new.todo ≡ f ∷ between.todo → (a : Account) → HasAccount stars f.before a
      → LeadsAlong lists f.before f.ways.items → Goes lists stars first old new
  goes-along formed first f old between new going visits left a has leads =
      let grows = visits-grows visits a has in
      record {
        added = f ∷ [];
        todo = left ∙ ap (λ (l : List Forks). f ∷ l) going.todo;
        light =
            let before = going.not_later in
            let higher = weight-rises (width lists) f.before.code.0 first.code.0 before in
            let lower = forks-light f formed leads in
            let one = work-one (width lists) f in
            omega arith;
        grows = grows-through going.grows grows;
        complete =
            λ j b at.
            ⊎_elim (λ done. inl (done-grows grows done))
            (λ there. leaves-along formed.program f visits leads j b there) (going.complete j b at);
        gathers = λ o r. gathers-through (going.gathers o r) grows (visits-gathers visits (going.reached o r));
        is_open =
            λ o r.
            All-cons (IsOpen lists stars o) f [] (open-along f leads (going.reached o r)) (All-nil
            (IsOpen lists stars o));
      }
