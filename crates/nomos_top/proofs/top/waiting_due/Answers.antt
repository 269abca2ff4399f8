use Rattle.std.proofs.Common.{map, string_bytes}
use Rattle.std.specs.Option.{option_map}
use Rattle.nomos_answers.proofs.SourceLemmas.{if_ok-map, if_err-map}
use Rattle.nomos_top.proofs.DueLemmas.{due-asked, part-asked}
use Rattle.nomos_top.proofs.top.waiting_due.Goals as goal
use Rattle.nomos_words.specs.Words.{pool, run}

pub returns-in-Some-Run-clause-ok : goal.returns-in-Some-Run-clause-ok
returns-in-Some-Run-clause-ok g c = λ third.
    let words = map string_bytes c.args.words.now in
    let r = c.in-Some-Run in
    let kept = option_map (λ word. word.now) r.journal in
    let found = rw r.field-0-is at r.ensures.found in
    if_ok-map c.script_due_by_crew.result _ _
    (λ d due. due-asked _ words (run r.field-0-0.now r.field-0-1.now r.workers r.steps kept) d found due)
    (c.script_due_by_crew.ensures.ok r.field-0-0.now r.field-0-1.now r.workers r.steps kept third c.run_orders.ensures)

pub returns-in-Some-Run-clause-err : goal.returns-in-Some-Run-clause-err
returns-in-Some-Run-clause-err g c = λ third.
    let words = map string_bytes c.args.words.now in
    let r = c.in-Some-Run in
    let kept = option_map (λ word. word.now) r.journal in
    let found = rw r.field-0-is at r.ensures.found in
    if_err-map c.script_due_by_crew.result _ _
    (λ part done. part-asked _ words (run r.field-0-0.now r.field-0-1.now r.workers r.steps kept) part found done)
    (c.script_due_by_crew.ensures.err r.field-0-0.now r.field-0-1.now r.workers r.steps kept third c.run_orders.ensures)

pub returns-in-Some-Pool-clause-ok : goal.returns-in-Some-Pool-clause-ok
returns-in-Some-Pool-clause-ok g c = λ third.
    let words = map string_bytes c.args.words.now in
    let r = c.in-Some-Pool in
    let found = rw r.field-0-is at r.ensures.found in
    if_ok-map c.pool_due.result _ _
    (λ d due. due-asked _ words (pool r.field-0-0.now r.field-0-1.now r.threads) d found due)
    (c.pool_due.ensures.ok r.field-0-0.now r.field-0-1.now third)

pub returns-in-Some-Pool-clause-err : goal.returns-in-Some-Pool-clause-err
returns-in-Some-Pool-clause-err g c = λ third.
    let words = map string_bytes c.args.words.now in
    let r = c.in-Some-Pool in
    let found = rw r.field-0-is at r.ensures.found in
    if_err-map c.pool_due.result _ _
    (λ part done. part-asked _ words (pool r.field-0-0.now r.field-0-1.now r.threads) part found done)
    (c.pool_due.ensures.err r.field-0-0.now r.field-0-1.now third)
