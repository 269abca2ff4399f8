use Rattle.std.proofs.Common.{None, refl, map, string_bytes, subst}
use Rattle.nomos_answers.proofs.SourceLemmas.{if_ok-map, if_err-map}
use Rattle.nomos_top.proofs.CallLemmas.{unwanted}
use Rattle.nomos_top.proofs.DueLemmas.{due-asked, due-usage, found-none, part-asked, part-usage}
use Rattle.nomos_top.proofs.top.words_due.Goals as goal
use Rattle.nomos_top.specs.Tasks.{ReadsScript, ReadsSnapshot, ReadsThird}
use Rattle.nomos_top.specs.mirror.Judging.{given_of}
use Rattle.nomos_words.specs.Jobs.{task}
use Rattle.nomos_words.proofs.WordLaws.{one_task}

pub returns-in-None-clause-ok : goal.returns-in-None-clause-ok
returns-in-None-clause-ok g c =
    let words = map string_bytes c.args.words.now in
    if_ok-map c.line_due.result _ _
    (λ d same. due-usage _ words d (found-none words None c.in-None.ensures refl) same)
    (rw c.usage_line.ensures at c.line_due.ensures.ok)

pub returns-in-None-clause-err : goal.returns-in-None-clause-err
returns-in-None-clause-err g c =
    let words = map string_bytes c.args.words.now in
    if_err-map c.line_due.result _ _
    (λ part nothing. part-usage _ words part (found-none words None c.in-None.ensures refl) nothing)
    c.line_due.ensures.err

pub returns-in-Some-clause-ok : goal.returns-in-Some-clause-ok
returns-in-Some-clause-ok g c =
    let words = map string_bytes c.args.words.now in
    if_ok-map c.job_due.result _ _
    (λ d due. due-asked _ words (task c.in-Some.job) d c.in-Some.ensures.found due) c.job_due.ensures.ok

pub returns-in-Some-clause-err : goal.returns-in-Some-clause-err
returns-in-Some-clause-err g c =
    let words = map string_bytes c.args.words.now in
    if_err-map c.job_due.result _ _
    (λ part done. part-asked _ words (task c.in-Some.job) part c.in-Some.ensures.found done) c.job_due.ensures.err

pub returns-in-Some-clause-contract_unread : goal.returns-in-Some-clause-contract_unread
returns-in-Some-clause-contract_unread g c = λ none.
    c.job_due.ensures.contract_unread (λ reads. none (task c.in-Some.job, c.in-Some.ensures.found, reads))

pub returns-in-Some-clause-script_unread : goal.returns-in-Some-clause-script_unread
returns-in-Some-clause-script_unread g c = λ none.
    let words = map string_bytes c.args.words.now in
    c.job_due.ensures.script_unread
    (unwanted words (task c.in-Some.job) c.in-Some.ensures.found ReadsScript (given_of c.job_due.result) none)

pub returns-in-Some-clause-third_unread : goal.returns-in-Some-clause-third_unread
returns-in-Some-clause-third_unread g c = λ none.
    let words = map string_bytes c.args.words.now in
    c.job_due.ensures.third_unread
    (unwanted words (task c.in-Some.job) c.in-Some.ensures.found ReadsThird (given_of c.job_due.result) none)

pub returns-in-Some-clause-third_after_script : goal.returns-in-Some-clause-third_after_script
returns-in-Some-clause-third_after_script g c = λ text left never no_snapshot.
    c.job_due.ensures.third_after_script text left never
    (λ reads. no_snapshot (task c.in-Some.job, c.in-Some.ensures.found, reads))

pub returns-in-Some-clause-script_after_snapshot : goal.returns-in-Some-clause-script_after_snapshot
returns-in-Some-clause-script_after_snapshot g c = λ text a left gives never wants.
    let words = map string_bytes c.args.words.now in
    c.job_due.ensures.script_after_snapshot text a left gives never
    (subst ReadsSnapshot (one_task words wants.0 (task c.in-Some.job) wants.1 c.in-Some.ensures.found) wants.2)
