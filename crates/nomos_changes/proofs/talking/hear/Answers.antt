use Rattle.std.proofs.Common.{◌∙◌, ℕ, true, Option, ap, refl, sym, subst}
use Rattle.nomos_deeds.specs.Acts.{message_at}
use Rattle.nomos_machine.specs.Change.{changed}
use Rattle.nomos_machine.specs.Hearing.{hears}
use Rattle.nomos_machine.specs.Optional.{◌>>=◌}
use Rattle.nomos_machine.specs.Sight.{message_on}
use Rattle.nomos_machine.specs.State.{State}
use Rattle.nomos_changes.specs.Hearings.{IsThere, heard_at}
use Rattle.nomos_changes.proofs.HearingLemmas.{heard-so, hearing-typed, nothing-there, seen-found}
use Rattle.nomos_changes.proofs.talking.hear.Goals as goal

pub returns-in_default-clause-ok : goal.returns-in_default-clause-ok
returns-in_default-clause-ok g c = (
  ap (λ (o : Option ℕ). o >>= message_on (g.P.Sight.state c.args.parts.now).objects true) (sym c.in_default.ensures),
  refl,
)

pub returns-in_default-message_on-clause-ok : goal.returns-in_default-message_on-clause-ok
returns-in_default-message_on-clause-ok g c = (
  nothing-there c.know.ensures.accepted c.requires.typed c.in-Some.name c.in-Some.ensures
      c.in_default-message_on.ensures,
  refl,
)

pub heard_of-requires : goal.heard_of-requires
heard_of-requires g c =
    let name = c.in-Some.name in
    let seen = c.in-Some-message_on.seen in
    let found = seen-found c.know.ensures.accepted c.requires.typed name c.in-Some.ensures c.requires.few
    c.requires.hearable seen c.in-Some-message_on.ensures in
    subst (λ (t : State). IsThere t name seen) (sym c.in_ok-make_room.ensures.state) found.there

pub listen-requires-clause-there : goal.listen-requires-clause-there
listen-requires-clause-there g c =
    let name = c.in-Some.name in
    let seen = c.in-Some-message_on.seen in
    let found = seen-found c.know.ensures.accepted c.requires.typed name c.in-Some.ensures c.requires.few
    c.requires.hearable seen c.in-Some-message_on.ensures in
    subst (λ (t : State). IsThere t name seen) (sym c.in_ok-make_room.ensures.state) found.there

pub returns-clause-ok : goal.returns-clause-ok
returns-clause-ok g c =
    let name = c.in-Some.name in
    let seen = c.in-Some-message_on.seen in
    let accepted = c.know.ensures.accepted in
    let typed = c.requires.typed in
    let outside = c.in-Some.ensures in
    let account = c.args.account in
    let found = seen-found accepted typed name outside c.requires.few c.requires.hearable seen
    c.in-Some-message_on.ensures in
    let m = found.there.message in
    let room = c.in_ok-make_room.ensures.state in
    heard-so accepted typed name outside seen found c.in_ok-heard.heard account (g.P.Sight.state c.listen.new.parts)
    (ap (λ (t : State). heard_at t.objects seen.number) (sym room) ∙ c.in_ok-heard.ensures)
    (c.listen.ensures.state m (ap (λ (t : State). message_at t.objects seen.number) room ∙ found.there.found)
    ∙ ap (λ (t : State). changed t (hears t m account)) room)

pub returns-clause-typed : goal.returns-clause-typed
returns-clause-typed g c =
    hearing-typed c.know.ensures.accepted c.requires.typed c.in-Some.name c.in-Some.ensures
    c.in_ok-heard.heard c.args.account (g.P.Sight.state c.listen.new.parts) (returns-clause-ok g c)
