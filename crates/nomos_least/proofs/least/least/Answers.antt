use Rattle.nomos_least.proofs.least.least.Goals as goal

pub returns : goal.returns
returns c = c.judge.ensures c.args.text.now c.in_ok-prepared.ensures.read
