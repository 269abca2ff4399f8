use Rattle.nomos_answers.proofs.BenchLemmas.{load-not_missing, no_faults}
use Rattle.nomos_answers.proofs.benches.load_script.Goals as goal

pub no_memory-requires : goal.no_memory-requires
no_memory-requires c =
    load-not_missing c.args.load c.requires c.in-Err.why
    (rw (c.deref.ensures.value, c.in_ok-text.ensures) at (c.in-Err.ensures no_faults))

pub returns-in-Ok : goal.returns-in-Ok
returns-in-Ok c = rw (c.deref.ensures.value, c.in_ok-text.ensures) at (c.in-Ok.ensures no_faults)
