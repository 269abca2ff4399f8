use Rattle.nomos_answers.specs.Outside.{input_of, source_state}
use Rattle.nomos_answers.proofs.PoolDueLemmas.{due-pool, part-pool, untaken-due, untaken-part}
use Rattle.nomos_answers.proofs.SourceLemmas.{if_err-map, if_ok-map}
use Rattle.nomos_answers.proofs.pools.pool_due.Goals as goal

pub returns-in-Ok-clause-ok : goal.returns-in-Ok-clause-ok
returns-in-Ok-clause-ok g c =
    let script = source_state (g.S.Source.left c.args.script.now) (g.S.Source.faults c.args.script.now)
    (g.S.Source.faults c.read_script.new.script) in
    let f = c.in-Ok.ensures in
    if_ok-map c.script_pool_due.result _ _
    (λ p is. due-pool c.args.accepted.now c.args.threads script f.0 c.in-Ok.script p f.1 f.2 is)
    c.script_pool_due.ensures.ok

pub returns-in-Ok-clause-err : goal.returns-in-Ok-clause-err
returns-in-Ok-clause-err g c =
    let script = source_state (g.S.Source.left c.args.script.now) (g.S.Source.faults c.args.script.now)
    (g.S.Source.faults c.read_script.new.script) in
    let f = c.in-Ok.ensures in
    if_err-map c.script_pool_due.result _ _
    (λ p is. part-pool c.args.accepted.now c.args.threads script f.0 c.in-Ok.script p f.1 f.2 is)
    c.script_pool_due.ensures.err

pub returns-in-Err-clause-ok : goal.returns-in-Err-clause-ok
returns-in-Err-clause-ok g c =
    let script = source_state (g.S.Source.left c.args.script.now) (g.S.Source.faults c.args.script.now)
    (g.S.Source.faults c.read_script.new.script) in
    let f = c.in-Err.ensures in
    rw c.untaken.ensures
    (untaken-due c.args.accepted.now c.args.threads script f.0 c.no_script_due.result f.1
    (c.no_script_due.ensures.ok (input_of script f.0) f.2))

pub returns-in-Err-clause-err : goal.returns-in-Err-clause-err
returns-in-Err-clause-err g c =
    let script = source_state (g.S.Source.left c.args.script.now) (g.S.Source.faults c.args.script.now)
    (g.S.Source.faults c.read_script.new.script) in
    rw c.untaken.ensures
    (untaken-part c.args.accepted.now c.args.threads script c.no_script_due.result c.no_script_due.ensures.err)
