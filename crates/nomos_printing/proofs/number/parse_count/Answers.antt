-- Digit by digit.
use Rattle.nomos_printing.proofs.CountLemmas.{Counted-next, Counted-stops, Counted-all}
use Rattle.nomos_printing.proofs.number.parse_count.Goals as goal

pub loop-left-preserved : goal.loop-left-preserved
loop-left-preserved c =
    Counted-next c.args.text.now c.loop-left.left.now c.loop-left.count c.in_ok-count.count c.loop-left.invariant
    c.in-len1-up.len_at_least c.in_ok-count.ensures

pub returns-in_err-count : goal.returns-in_err-count
returns-in_err-count c =
    λ n small e. absurd (Counted-stops c.args.text.now c.loop-left.left.now c.loop-left.count c.loop-left.invariant
    c.in-len1-up.len_at_least c.in_err-count.ensures n small e)

pub returns : goal.returns
returns c =
    Counted-all c.args.text.now c.loop-left.left.now c.loop-left.count c.loop-left.invariant c.in_default.len_below
