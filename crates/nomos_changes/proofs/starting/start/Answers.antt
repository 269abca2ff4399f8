use Rattle.std.proofs.Common.{◌≡◌, ◌∙◌, ℕ, ap}
use Rattle.nomos_machine.specs.Given.{begins}
use Rattle.nomos_machine.specs.State.{State}
use Rattle.nomos_changes.specs.Gives.{given_in}
use Rattle.nomos_changes.specs.SmallChanges.{process_born}
use Rattle.nomos_changes.proofs.BeginLemmas.{if-told}
use Rattle.nomos_changes.proofs.StartingLemmas.{line-given, line-started, line-typed}
use Rattle.nomos_changes.proofs.starting.start.Goals as goal

pub returns-clause-ok : goal.returns-clause-ok
returns-clause-ok g c =
    let a = c.args.accepted.now in
    let s = g.P.Sight.state c.args.parts.now in
    let t = g.P.Sight.state c.make_room.new.self in
    let line = c.args.line in
    let d = c.declared-chosen.result.now in
    let given = given_in c.in_ok-given.given in
    let lines = line-given a s line.declaration.0 d line.values.now line.names.now line.payer given
    c.in_ok-given.ensures.values c.in_ok-given.ensures.lists c.in_ok-given.ensures.channels in
    let bound = if-told _ _ d c.declared-chosen.ensures c.bound.ensures in
    let born : process_born c.in_ok-child.child ≡ begins d given t.next_object t.next_name c.bound.result line.payer =
    c.in_ok-child.ensures
    ∙ ap (λ (n : ℕ). begins d given n c.fresh_name.result c.bound.result line.payer) c.next_number.ensures
    ∙ ap (λ (n : ℕ). begins d given t.next_object n c.bound.result line.payer) c.fresh_name.ensures in (
      c.next_number.ensures ∙ ap (λ (t : State). t.next_object) c.in_ok-make_room.ensures.state,
      line-started a s line.declaration.0 d line.values.now line.names.now line.payer t
          (g.P.Sight.state c.come.new.parts) given (process_born c.in_ok-child.child) c.from.result c.bound.result
          c.in_ok-make_room.ensures.state c.declared-chosen.ensures lines bound c.from.ensures born
          c.in_ok-come.ensures.ok,
    )

pub returns-clause-typed : goal.returns-clause-typed
returns-clause-typed g c =
    line-typed c.args.accepted.now (g.P.Sight.state c.args.parts.now) (g.P.Sight.state c.come.new.parts)
    c.args.line.declaration.0 c.args.line.values.now c.args.line.names.now c.args.line.payer
    c.know.ensures.accepted c.requires.may.typed c.requires.start (returns-clause-ok g c).1
