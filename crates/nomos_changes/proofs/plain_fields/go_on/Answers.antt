use Rattle.std.proofs.Common.{refl}
use Rattle.nomos_machine.specs.Revised.{standing_at}
use Rattle.nomos_machine.specs.State.{process_at}
use Rattle.nomos_changes.proofs.BecomesLemmas.{fields-end, seen-is}
use Rattle.nomos_changes.proofs.plain_fields.go_on.Goals as goal

pub returns-in-Some-clause-state : goal.returns-in-Some-clause-state
returns-in-Some-clause-state g c p there =
    let s = g.P.Sight.state c.args.parts.now in
    let seen = seen-is (process_at s c.args.pid) p c.in-Some.seen c.in-Some.ensures there in
    fields-end s (g.P.Sight.state c.set_fields.new.self) c.args.pid p (standing_at c.args.next p) c.going_on.result
    there (c.going_on.ensures p seen) refl refl c.set_fields.ensures.state
