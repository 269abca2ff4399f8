use Rattle.std.proofs.Common.{◌≡◌, ◌∙◌, ℕ, ap}
use Rattle.nomos_machine.specs.Given.{begins}
use Rattle.nomos_machine.specs.State.{State}
use Rattle.nomos_machine.proofs.OutsideTalkLaws.{opens-party}
use Rattle.nomos_changes.specs.Gives.{given_in}
use Rattle.nomos_changes.specs.SmallChanges.{process_born}
use Rattle.nomos_changes.proofs.BeginLemmas.{if-told}
use Rattle.nomos_changes.proofs.OpeningLemmas.{nothing-given, opening-opens}
use Rattle.nomos_changes.proofs.talking.open_outside.Goals as goal

pub returns-clause-ok : goal.returns-clause-ok
returns-clause-ok g c =
    let a = c.args.accepted.now in
    let s = g.P.Sight.state c.args.parts.now in
    let t = g.P.Sight.state c.make_room.new.self in
    let account = c.args.opening.account in
    let d = c.declared-chosen.result.now in
    let given = given_in c.nothing_given.result in
    let none = nothing-given given c.nothing_given.ensures.values c.nothing_given.ensures.lists
    c.nothing_given.ensures.channels in
    let bound = if-told _ _ d c.declared-chosen.ensures c.bound.ensures in
    let born : process_born c.in_ok-child.child ≡ begins d given t.next_object t.next_name c.bound.result account =
    c.in_ok-child.ensures
    ∙ ap (λ (n : ℕ). begins d given n c.fresh_name.result c.bound.result account) c.next_number.ensures
    ∙ ap (λ (n : ℕ). begins d given t.next_object n c.bound.result account) c.fresh_name.ensures in (
      c.next_number.ensures ∙ ap (λ (t : State). t.next_object) c.in_ok-make_room.ensures.state,
      opening-opens a s c.args.opening.declaration.0 account c.requires.open t
          (g.P.Sight.state c.come_outside.new.parts) d given (process_born c.in_ok-child.child) c.from.result
          c.bound.result c.in_ok-make_room.ensures.state c.declared-chosen.ensures none bound c.from.ensures born
          c.in_ok-come_outside.ensures.ok,
    )

pub returns-clause-typed : goal.returns-clause-typed
returns-clause-typed g c =
    (opens-party c.know.ensures.accepted c.requires.may.typed c.args.opening.declaration.0
    (returns-clause-ok g c).1).has.typed
