use Rattle.std.proofs.Common.{rules, ◌∙◌, ◌∷◌, ◌++◌, [], ◌<◌, All, List, Some, sym, ap, subst}
use Rattle.nomos_slots.specs.Numbers.{IsAscending, numbers}
use Rattle.nomos_slots.specs.declared.numbered.Slot.{Slot}
use Rattle.nomos_slots.proofs.NumberLaws.{ascending-push}
use Rattle.nomos_state.specs.Tallying.{tallied}
use Rattle.nomos_state.specs.declared.tally.Tally.{Tally}
use Rattle.nomos_state.proofs.TallyLemmas.{come-counted}
use Rattle.nomos_state.proofs.tallies.Tallies.expect.Goals as goal

pub returns-clause-order : goal.returns-clause-order
returns-clause-order c =
    let slot : Slot Tally = record { number = c.args.name; item = Some c.none.result } in
    let is = c.push.ensures.now ∙ ap (λ (ts : List (Slot Tally)). ts ++ slot ∷ []) c.reserve.ensures.now in
    let below : All (λ n. n < c.args.name) (numbers c.args.self.now.names.now) = search rules in
    subst (λ (ts : List (Slot Tally)). IsAscending ts) (sym is)
    (ascending-push c.args.self.now.names.now slot c.requires.order below)

pub returns-clause-counts : goal.returns-clause-counts
returns-clause-counts c exact d n =
    let slot : Slot Tally = record { number = c.args.name; item = Some c.none.result } in
    let is = c.push.ensures.now ∙ ap (λ (ts : List (Slot Tally)). ts ++ slot ∷ []) c.reserve.ensures.now in
    let below : All (λ n. n < c.args.name) (numbers c.args.self.now.names.now) = search rules in
    ap (λ (ts : List (Slot Tally)). tallied ts d n) is
    ∙ come-counted c.args.self.now.names.now c.args.name c.none.result below c.none.ensures d n
