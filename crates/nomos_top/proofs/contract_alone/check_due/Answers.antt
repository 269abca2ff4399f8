use Rattle.nomos_answers.proofs.SourceLemmas.{if_ok-map}
use Rattle.nomos_answers.specs.Outside.{HaveRisen, source_state}
use Rattle.nomos_top.proofs.DueLemmas.{due-checked, due-out}
use Rattle.nomos_top.proofs.contract_alone.check_due.Goals as goal
use Rattle.nomos_top.specs.mirror.Judging.{Sources}
use Rattle.nomos_words.specs.Words.{check}

pub returns-in-Ok-clause-ok : goal.returns-in-Ok-clause-ok
returns-in-Ok-clause-ok g c = λ file script third.
    let contract = source_state (g.S.Source.left c.args.contract.now) (g.S.Source.faults c.args.contract.now)
    (g.S.Source.faults c.judge.new.contract) in
    let s : Sources = record { contract = contract; script = script; third = third } in
    let f = c.in-Ok.ensures in
    if_ok-map c.accepted_due.result _ _
    (λ d same. due-checked s file f.0 c.in-Ok.accepted d f.1 f.2 same) c.accepted_due.ensures.ok

pub returns-in-Err-clause-ok : goal.returns-in-Err-clause-ok
returns-in-Err-clause-ok g c = λ file script third.
    let contract = source_state (g.S.Source.left c.args.contract.now) (g.S.Source.faults c.args.contract.now)
    (g.S.Source.faults c.judge.new.contract) in
    let s : Sources = record { contract = contract; script = script; third = third } in
    let f = c.in-Err.ensures in
    if_ok-map c.unaccepted_due.result _ _
    (λ d out. due-out s (check file) f.0 (HaveRisen contract.counts) c.in-Err.unaccepted d f.1 (λ rose. (tt, rose)) f.2
    out)
    c.unaccepted_due.ensures.ok
