use Rattle.std.proofs.Common.{option_and_then, sym}
use Rattle.nomos_state.specs.Indexed.{held_now, standing_at, state_of}
use Rattle.nomos_deeds.specs.ProcessWalks.{is_acquiring, is_over}
use Rattle.nomos_state.proofs.LookLemmas.{state-in_order}
use Rattle.nomos_state.proofs.SeekLemmas.{first-found}
use Rattle.nomos_deeds.proofs.WalkLaws.{waiting-next}
use Rattle.nomos_state.proofs.walking.next_waiting.Goals as goal

pub returns : goal.returns
returns c =
    let h = held_now c.args.contents.now in
    let a = c.args.accepted.now in
    let found = first-found (is_over c.args.after (is_acquiring a)) h c.requires c.first_acquiring.result
    c.first_acquiring.ensures in
    waiting-next a c.args.after (state_of h).objects (state-in_order h c.requires)
    (option_and_then (standing_at h) c.first_acquiring.result) (sym found) c.number_in.result c.number_in.ensures
