use Rattle.std.proofs.Common.{arith}
use Rattle.std.proofs.lemmas.Grind.{common_steps}
use Rattle.nomos_changes.proofs.GivenLemmas.{unequal-names}
use Rattle.nomos_changes.proofs.given.give_names.Goals as goal

pub returns-then-args-pars : goal.returns-then-args-pars
returns-then-args-pars g c p there = unequal-names p c.args.args.now c.args.pars.now c.if-args-pars.true

pub returns-in-None : goal.returns-in-None
returns-in-None g c p there =
    let none = c.in-None.ensures p there in
    let so_far = c.loop-at.invariant p there in
    grind (arith, common_steps)

pub loop-at-preserved : goal.loop-at-preserved
loop-at-preserved g c p there =
    let some = c.in-Some.ensures p there in
    let so_far = c.loop-at.invariant p there in
    grind (arith, common_steps)
