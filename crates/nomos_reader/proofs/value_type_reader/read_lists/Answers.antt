use Rattle.std.proofs.Common.{sym, ◌∙◌}
use Rattle.nomos_reader.proofs.PartedLemmas.{more_lists, no_lists}
use Rattle.nomos_reader.proofs.value_type_reader.read_lists.Goals as goal

pub loop-lists-preserved : goal.loop-lists-preserved
loop-lists-preserved c =
    rw (c.in_ok-push.ensures.items, c.skip.ensures.at, c.skip.ensures.rest)
    (sym (more_lists c.loop-lists.lists.items c.loop-lists.tokens (sym c.at_list.ensures ∙ c.loop-lists-test.true))
    ∙ c.loop-lists.invariant)

pub returns : goal.returns
returns c =
    sym (no_lists c.loop-lists.lists.items c.loop-lists.tokens (sym c.at_list.ensures ∙ c.loop-lists-test.false))
    ∙ c.loop-lists.invariant
