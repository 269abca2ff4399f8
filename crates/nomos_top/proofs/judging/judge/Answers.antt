use Rattle.nomos_answers.specs.Outside.{source_state}
use Rattle.nomos_top.proofs.DueLemmas.{judged}
use Rattle.nomos_top.proofs.judging.judge.Goals as goal

pub returns : goal.returns
returns g c =
    judged
    (source_state (g.S.Source.left c.args.contract.now) (g.S.Source.faults c.args.contract.now)
    (g.S.Source.faults c.read_contract.new.contract))
    c.in_ok-text.text.items c.judge_text.result c.in_ok-text.ensures (rw c.deref.ensures.value at c.judge_text.ensures)
