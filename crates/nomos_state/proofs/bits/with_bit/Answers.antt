use Rattle.std.proofs.Common.{◌==◌, cond}
use Rattle.std.proofs.Common.{ap, ◌∙◌, sym}
use Rattle.nomos_state.specs.Spanning.{has_bit}
use Rattle.nomos_state.proofs.BitLemmas.{has_bit-set, has_bit-clear}
use Rattle.nomos_state.proofs.bits.with_bit.Goals as goal

pub returns-then-set : goal.returns-then-set
returns-then-set c = λ i below. has_bit-set c.args.word c.args.at i c.requires below
    ∙ ap (λ b. cond (i == c.args.at) b (has_bit c.args.word i)) (sym c.if-set.true)

pub returns-else-set : goal.returns-else-set
returns-else-set c = λ i below. has_bit-clear c.args.word c.args.at i c.requires below
    ∙ ap (λ b. cond (i == c.args.at) b (has_bit c.args.word i)) (sym c.if-set.false)
