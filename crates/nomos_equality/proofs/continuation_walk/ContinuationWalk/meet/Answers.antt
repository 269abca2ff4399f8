use Rattle.std.proofs.Common.{nat_eq, refl, sym, ◌∙◌}
use Rattle.indexmap.proofs.CallerLemmas.{insert_entry-new}
use Rattle.nomos_equality.specs.mirror.Walk.{known, fresh}
use Rattle.nomos_equality.proofs.EntryLemmas.{entry-there, none-there}
use Rattle.nomos_equality.proofs.continuation_walk.ContinuationWalk.meet.Goals as goal

pub returns-then-contains_key : goal.returns-then-contains_key
returns-then-contains_key c =
    let e = entry-there c.args.self.now.visits.entries c.unfold-at.result.0
    (sym c.contains_key.ensures ∙ c.if-contains_key.true) in
    known (record { at = c.unfold-at.result.0; from = e.0; is = c.unfold-at.ensures.unfolds; among = e.1 }) refl

pub returns : goal.returns
returns c =
    fresh c.unfold-at.result.0 c.unfold-at.ensures.unfolds
    (c.in_ok-insert.ensures.entries
    ∙ insert_entry-new nat_eq c.args.self.now.visits c.unfold-at.result.0 c.args.from
    (none-there _ (sym c.contains_key.ensures ∙ c.if-contains_key.false)))
