use Rattle.std.proofs.Common.{None, map, refl, string_bytes}
use Rattle.nomos_answers.specs.Outside.{SourceState, source_state}
use Rattle.nomos_top.proofs.ClaimLaws.{ended-claims}
use Rattle.nomos_top.proofs.CallLemmas.{nothing-may_keep, seven-wanting, waits-no_snapshot}
use Rattle.nomos_top.proofs.DueLemmas.{call-ends}
use Rattle.nomos_top.proofs.OneAnswerLaws.{one-answer, one-reading}
use Rattle.nomos_top.proofs.top.nomos.Goals as goal

pub returns-clause-claims : goal.returns-clause-claims
returns-clause-claims g c =
    ended-claims _
    (call-ends _ c.waiting_due-due.result _ refl refl refl c.know_accepted.ensures (c.waiting_due-due.ensures.ok _)
    (c.waiting_due-due.ensures.err _) (c.end_call-ended.ensures.ok _ _ _ _) (c.end_call-ended.ensures.err _ _ _ _))

pub returns-clause-one_answer : goal.returns-clause-one_answer
returns-clause-one_answer g c = one-answer

pub returns-clause-one_reading : goal.returns-clause-one_reading
returns-clause-one_reading g c = one-reading

-- how the call ended, whatever its sources are
untold : SourceState
untold = source_state None 0 0

pub returns-clause-untouched : goal.returns-clause-untouched
returns-clause-untouched g c =
    let words = map string_bytes c.args.words.now in
    record {
      contract = c.waiting_due-due.ensures.contract_unread;
      script = λ none. c.waiting_due-due.ensures.script_unread (rw c.end_call-ended.ensures.given at none);
      third = λ none. refl;
      behind_script = λ text told none no_snapshot. refl;
      behind_snapshot = λ text a left gives never wants.
          absurd (waits-no_snapshot words (c.may_wait.ensures.0 c.if-not-may_wait.false) wants);
      out = λ seven.
          seven-wanting _ c.waiting_due-due.result _ _ (c.waiting_due-due.ensures.ok untold)
          (c.end_call-ended.ensures.ok words untold untold untold)
          c.end_call-ended.ensures.nothing_out seven;
      journal_out = λ never.
          nothing-may_keep _ c.waiting_due-due.result _ _ (c.waiting_due-due.ensures.ok untold)
          (c.end_call-ended.ensures.ok words untold untold untold)
          c.end_call-ended.ensures.none_kept c.end_call-ended.ensures.nothing_kept never;
    }
