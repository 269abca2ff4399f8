use Rattle.std.proofs.Common.{option_and_then, sym, ap}
use Rattle.nomos_machine.specs.State.{State}
use Rattle.nomos_state.specs.Indexed.{held_now, standing_at, state_of}
use Rattle.nomos_deeds.specs.ProcessWalks.{is_over, is_ready_in}
use Rattle.nomos_state.proofs.SeekLemmas.{first-found}
use Rattle.nomos_deeds.proofs.WalkLaws.{ready-next}
use Rattle.nomos_state.proofs.walking.next_ready.Goals as goal

pub returns : goal.returns
returns g c =
    let h = held_now c.args.contents.now in
    let a = c.args.accepted.now in
    let s = g.S.Sight.state c.args.sight.now in
    let found = first-found (is_over c.args.after (is_ready_in a s)) h c.requires.holding c.first_ready.result
    c.first_ready.ensures in
    ready-next a s c.know.ensures.accepted c.requires.typed c.args.after (state_of h).objects
    (ap (λ (t : State). t.objects) c.requires.state)
    (option_and_then (standing_at h) c.first_ready.result) (sym found) c.number_in.result c.number_in.ensures
