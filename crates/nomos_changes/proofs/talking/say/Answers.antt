use Rattle.std.proofs.Common.{Some, sym, subst}
use Rattle.nomos_machine.specs.Change.{CanGive}
use Rattle.nomos_machine.specs.State.{State}
use Rattle.nomos_machine.specs.TypedState.{IsTyped}
use Rattle.nomos_machine.proofs.SayingLaws.{said-typed}
use Rattle.nomos_changes.proofs.SayingLemmas.{can-on, way-has, way-may, way-says}
use Rattle.nomos_changes.proofs.talking.say.Goals as goal

pub unreachable-requires-in_default-way_on : goal.unreachable-requires-in_default-way_on
unreachable-requires-in_default-way_on g c =
    let can = c.requires.say in
    c.in_default-way_on.ensures can.gas can.may.0 (can-on can c.in-Some.name c.in-Some.ensures)

pub speak-requires-clause-has : goal.speak-requires-clause-has
speak-requires-clause-has g c =
    let can = c.requires.say in
    let way = c.in-Some-way_on.way in
    subst (λ (t : State). CanGive (Some (c.args.saying.account, way.gas)) t.balances)
    (sym c.in_ok-make_room.ensures.state)
    (way-has can way (way-may can c.in-Some.name c.in-Some.ensures way c.in-Some-way_on.ensures))

pub returns-clause-ok : goal.returns-clause-ok
returns-clause-ok g c =
    way-says c.requires.say c.in-Some.name c.in-Some.ensures c.in-Some-way_on.way c.in-Some-way_on.ensures
    (g.P.Sight.state c.make_room.new.self) (g.P.Sight.state c.speak.new.parts) c.in_ok-payload.payload
    c.in_ok-make_room.ensures.state c.in_ok-payload.ensures c.in_ok-speak.ensures.ok

pub returns-clause-typed : goal.returns-clause-typed
returns-clause-typed g c =
    let h = returns-clause-ok g c in
    subst (IsTyped c.args.accepted.now) (sym h.after)
    (said-typed c.know.ensures.accepted c.requires.may.typed c.args.saying.said.now h.gas h.goes h.may
    c.args.saying.account)
