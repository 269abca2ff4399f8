use Rattle.std.proofs.Common.{sym, ◌∙◌}
use Rattle.nomos_reader.proofs.ChainLemmas.{more_nots, no_nots}
use Rattle.nomos_reader.proofs.term_reader.read_nots.Goals as goal

pub loop-nots-preserved : goal.loop-nots-preserved
loop-nots-preserved c =
    rw (c.in_ok-push.ensures.items, c.skip.ensures.at, c.skip.ensures.rest)
    (sym (more_nots c.loop-nots.nots.items c.loop-nots.tokens (sym c.at_not.ensures ∙ c.loop-nots-test.true))
    ∙ c.loop-nots.invariant)

pub returns : goal.returns
returns c =
    sym (no_nots c.loop-nots.nots.items c.loop-nots.tokens (sym c.at_not.ensures ∙ c.loop-nots-test.false))
    ∙ c.loop-nots.invariant
