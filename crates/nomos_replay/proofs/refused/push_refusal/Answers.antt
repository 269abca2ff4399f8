use Rattle.nomos_replay.proofs.RefusalLemmas.{refused-line}
use Rattle.nomos_replay.proofs.refused.push_refusal.Goals as goal

pub returns-in_default : goal.returns-in_default
returns-in_default c = rw (refused-line c.args.unit c.args.error.now c.in_default.not-NoMemory) c.push_refused.ensures
