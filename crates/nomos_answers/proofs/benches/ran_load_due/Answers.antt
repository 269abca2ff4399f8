use Rattle.std.proofs.Common.{refl}
use Rattle.nomos_legal.proofs.LegalLaws.{tells-within}
use Rattle.nomos_answers.proofs.BenchLemmas.{load-run}
use Rattle.nomos_answers.proofs.benches.ran_load_due.Goals as goal

pub summary-requires : goal.summary-requires
summary-requires g c = tells-within c.run_script-journal.ensures.runs.tells

pub returns-in-Ok-clause-ok : goal.returns-in-Ok-clause-ok
returns-in-Ok-clause-ok g c =
    load-run c.args.accepted.now c.args.script.now c.args.orders c.args.load c.run_script-journal.result
    c.in-Some.whole _ c.requires.result c.run_script-journal.ensures.runs c.in-Some.is refl
    (rw c.as_slice.ensures at c.run_status.ensures) c.in-Ok.ensures refl
