use Rattle.std.proofs.Common.{arith}
use Rattle.nomos_answers.proofs.BenchLemmas.{lasting-within}
use Rattle.nomos_answers.proofs.benches.all_lasting.Goals as goal

pub overflow_add-firings : goal.overflow_add-firings
overflow_add-firings c =
    let within = lasting-within c.args.entries.now c.loop-entry.entry-index c.entry-item.result c.loop-entry-test.true
    c.entry-item.is in
    omega (arith, c.loop-entry.invariant, c.lasting_firings-firings.ensures, within, c.requires)
