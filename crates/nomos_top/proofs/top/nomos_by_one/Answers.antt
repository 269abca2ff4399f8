use Rattle.std.proofs.Common.{None, map, refl, string_bytes}
use Rattle.nomos_answers.specs.Outside.{SourceState, source_state}
use Rattle.nomos_top.proofs.ClaimLaws.{ended-claims}
use Rattle.nomos_top.proofs.CallLemmas.{nothing-may_keep, seven-wanting}
use Rattle.nomos_top.proofs.DueLemmas.{call-ends}
use Rattle.nomos_top.proofs.OneAnswerLaws.{one-answer, one-reading}
use Rattle.nomos_top.proofs.top.nomos_by_one.Goals as goal

pub returns-clause-claims : goal.returns-clause-claims
returns-clause-claims g c =
    ended-claims _
    (call-ends _ c.words_due-due.result _ refl refl refl c.know_accepted.ensures c.words_due-due.ensures.ok
    c.words_due-due.ensures.err (c.end_call-ended.ensures.ok _ _ _ _) (c.end_call-ended.ensures.err _ _ _ _))

pub returns-clause-one_answer : goal.returns-clause-one_answer
returns-clause-one_answer g c = one-answer

pub returns-clause-one_reading : goal.returns-clause-one_reading
returns-clause-one_reading g c = one-reading

-- how the call ended, whatever its sources are
untold : SourceState
untold = source_state None 0 0

pub returns-clause-untouched : goal.returns-clause-untouched
returns-clause-untouched g c =
    let words = map string_bytes c.args.words.now in
    record {
      contract = c.words_due-due.ensures.contract_unread;
      script = λ none. c.words_due-due.ensures.script_unread (rw c.end_call-ended.ensures.given at none);
      third = λ none. c.words_due-due.ensures.third_unread (rw c.end_call-ended.ensures.given at none);
      behind_script = c.words_due-due.ensures.third_after_script;
      behind_snapshot = λ text a left gives never wants.
          c.words_due-due.ensures.script_after_snapshot text a left (rw c.end_call-ended.ensures.given at gives) never
          wants;
      out = λ seven.
          seven-wanting _ c.words_due-due.result _ _ c.words_due-due.ensures.ok
          (c.end_call-ended.ensures.ok words untold untold untold)
          c.end_call-ended.ensures.nothing_out seven;
      journal_out = λ never.
          nothing-may_keep _ c.words_due-due.result _ _ c.words_due-due.ensures.ok
          (c.end_call-ended.ensures.ok words untold untold untold)
          c.end_call-ended.ensures.none_kept c.end_call-ended.ensures.nothing_kept never;
    }
