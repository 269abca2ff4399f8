use Rattle.std.proofs.Common.{◌∙◌, refl, sym, ap, subst}
use Rattle.nomos_state.specs.Indexed.{IsHolding, held_now, state_of}
use Rattle.nomos_state.proofs.CloseLemmas.{beside-late, holding-objects_closed, objects_closed-is, state-objects_closed}
use Rattle.nomos_state.proofs.TogetherLemmas.{same-names}
use Rattle.nomos_state.proofs.closing.close_objects.Goals as goal

pub close_rows-requires-clause-long : goal.close_rows-requires-clause-long
close_rows-requires-clause-long c = c.requires.holding.value_rows

pub close_rows-requires-clause-late : goal.close_rows-requires-clause-late
close_rows-requires-clause-late c = beside-late _ _ c.late_from-from.result c.requires.values c.late_from-from.ensures

pub close_rows-requires-2-clause-long : goal.close_rows-requires-2-clause-long
close_rows-requires-2-clause-long c = c.requires.holding.list_rows

pub close_rows-requires-2-clause-late : goal.close_rows-requires-2-clause-late
close_rows-requires-2-clause-late c = beside-late _ _ c.late_from-from.result c.requires.its_lists
    c.late_from-from.ensures

pub returns-clause-holding : goal.returns-clause-holding
returns-clause-holding c =
    let h = held_now c.args.contents.now in
    let from = c.late_from-from.result in
    subst IsHolding
    (objects_closed-is h from c.close_gaps.new.self.now c.close_rows.new.rows.now c.close_rows-2.new.rows.now
    c.close_gaps.ensures.now c.close_rows.ensures.now c.close_rows-2.ensures.now)
    (holding-objects_closed h from c.requires.holding)

pub returns-clause-state : goal.returns-clause-state
returns-clause-state c =
    let h = held_now c.args.contents.now in
    let from = c.late_from-from.result in
    sym (ap state_of
    (objects_closed-is h from c.close_gaps.new.self.now c.close_rows.new.rows.now c.close_rows-2.new.rows.now
    c.close_gaps.ensures.now c.close_rows.ensures.now c.close_rows-2.ensures.now))
    ∙ state-objects_closed h from c.requires.holding

pub returns-clause-marked : goal.returns-clause-marked
returns-clause-marked c = record {
  objects = c.close_gaps.ensures.marked;
  values = c.close_rows.ensures.marked;
  its_lists = c.close_rows-2.ensures.marked;
  channels = same-names c.args.contents.now.channels.marked c.args.contents.now.channels.marked refl;
  names = refl;
  balances = refl;
  outside = refl;
  results = refl;
}
