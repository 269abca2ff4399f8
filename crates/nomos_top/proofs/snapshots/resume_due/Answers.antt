use Rattle.std.proofs.Common.{◌≡◌, List, ℕ, Option, Some, Ok, sym, ◌∙◌, subst}
use Rattle.std.proofs.lemmas.Option.{same_Some}
use Rattle.nomos_answers.proofs.SourceLemmas.{if_ok-map, if_err-map}
use Rattle.nomos_answers.specs.Outside.{HaveRisen, source_state}
use Rattle.nomos_top.proofs.DueLemmas.{ok-given, err-given, given-some, due-out, due-resume, part-nothing, part-resume}
use Rattle.nomos_top.proofs.snapshots.resume_due.Goals as goal
use Rattle.nomos_legal.specs.Ledger.{LedgerState}
use Rattle.nomos_snapshot.specs.Loading.{Loads}
use Rattle.nomos_types.specs.Acceptance.{Acceptance}
use Rattle.nomos_words.specs.Words.{resume}

-- one program is given, so that what it loads the other does
given-one : {given : Option Acceptance} {text : List ℕ} {first : LedgerState} (a b : Acceptance) → given ≡ Some b
    → given ≡ Some a → Loads b text (Ok first) → Loads a text (Ok first)
given-one {given} {text} {first} a b gives is loads =
    subst (λ (x : Acceptance). Loads x text (Ok first)) (same_Some b a (sym gives ∙ is)) loads

pub returns-in-Ok-clause-ok : goal.returns-in-Ok-clause-ok
returns-in-Ok-clause-ok g c = λ file kept words.
    let f = c.in-Ok.ensures in
    ok-given c.accepted_resume_due.result c.in-Ok.accepted _ _ c.accepted_resume_due.ensures.given
    c.accepted_resume_due.ensures.untaken
    (λ d gives untaken due. due-resume _ file kept words f.0 c.in-Ok.accepted d f.1 f.2 gives untaken due)
    c.accepted_resume_due.ensures.ok

pub returns-in-Ok-clause-err : goal.returns-in-Ok-clause-err
returns-in-Ok-clause-err g c = λ file kept words.
    let f = c.in-Ok.ensures in
    err-given c.accepted_resume_due.result c.in-Ok.accepted _ _ c.accepted_resume_due.ensures.given
    c.accepted_resume_due.ensures.untaken
    (λ part gives untaken done. part-resume _ file kept words f.0 c.in-Ok.accepted part f.1 f.2 gives untaken done)
    c.accepted_resume_due.ensures.err

pub returns-in-Ok-clause-unread_snapshot : goal.returns-in-Ok-clause-unread_snapshot
returns-in-Ok-clause-unread_snapshot g c = λ none.
    given-some c.accepted_resume_due.result c.in-Ok.accepted c.accepted_resume_due.ensures.given none

pub returns-in-Ok-clause-unread_script : goal.returns-in-Ok-clause-unread_script
returns-in-Ok-clause-unread_script g c = λ none.
    given-some c.accepted_resume_due.result c.in-Ok.accepted c.accepted_resume_due.ensures.given none

pub returns-in-Err-clause-ok : goal.returns-in-Err-clause-ok
returns-in-Err-clause-ok g c = λ file kept words.
    let contract = source_state (g.S.Source.left c.args.contract.now) (g.S.Source.faults c.args.contract.now)
    (g.S.Source.faults c.judge.new.contract) in
    let f = c.in-Err.ensures in
    if_ok-map c.unaccepted_due.result _ _
    (λ d out. due-out _ (resume file kept words) f.0 (HaveRisen contract.counts) c.in-Err.unaccepted d f.1
    (λ rose. (tt, rose)) f.2 out)
    c.unaccepted_due.ensures.ok

pub returns-in-Err-clause-err : goal.returns-in-Err-clause-err
returns-in-Err-clause-err g c = λ file kept words.
    if_err-map c.unaccepted_due.result _ _ (λ part none. part-nothing _ (resume file kept words) part none)
    c.unaccepted_due.ensures.err

pub returns-in-Ok-clause-unread : goal.returns-in-Ok-clause-unread
returns-in-Ok-clause-unread g c = λ text a left gives never.
    c.accepted_resume_due.ensures.unread text left
    (λ first loads. never first (given-one _ _ c.accepted_resume_due.ensures.given gives loads))
