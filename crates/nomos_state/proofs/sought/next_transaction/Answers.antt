use Rattle.std.proofs.Common.{option_and_then, sym}
use Rattle.nomos_state.specs.Indexed.{held_now, standing_at, state_of}
use Rattle.nomos_deeds.specs.ProcessWalks.{is_over, is_transaction}
use Rattle.nomos_state.proofs.LookLemmas.{state-in_order}
use Rattle.nomos_state.proofs.SeekLemmas.{first-found}
use Rattle.nomos_state.proofs.StartLemmas.{none-before}
use Rattle.nomos_deeds.proofs.WalkLaws.{transactions-next}
use Rattle.nomos_state.proofs.sought.next_transaction.Goals as goal

pub first_from-requires : goal.first_from-requires
first_from-requires c =
    none-before is_transaction (held_now c.args.contents.now) c.args.after c.start_over-start.result
    c.start_over-start.ensures.before

pub returns : goal.returns
returns c =
    let h = held_now c.args.contents.now in
    let found =
    first-found (is_over c.args.after is_transaction) h c.requires c.first_from.result c.first_from.ensures
    in
    transactions-next c.args.after (state_of h).objects (state-in_order h c.requires)
    (option_and_then (standing_at h) c.first_from.result) (sym found) c.number_in.result c.number_in.ensures
