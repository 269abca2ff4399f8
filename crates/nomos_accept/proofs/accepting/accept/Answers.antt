use Rattle.nomos_accept.proofs.accepting.accept.Goals as goal

-- what the text reads as is judged
pub returns : goal.returns
returns c = c.judge.ensures c.args.text.now c.in_ok-prepared.ensures.read
