use Rattle.std.proofs.Common.{Err, sym, subst, ◌∙◌}
use Rattle.nomos_accept.proofs.JudgingLaws.{found-is_accepted, accepted-answer, refuted-answer, unsolved-answer}
use Rattle.nomos_accept.proofs.accepting.judge.Goals as goal
use Rattle.nomos_accept.specs.AcceptedText.{Answers, IsAcceptedAs}
use Rattle.nomos_accept.specs.declared.why.AcceptError.{AcceptError}

pub returns-in-Ok-Found : goal.returns-in-Ok-Found
returns-in-Ok-Found c = λ text read.
    let prepared = c.args.prepared in
    let found = c.in-Ok-Found.found in
    let both = c.in-Ok-Found.ensures.found found (cc) in
    let accepted =
    found-is_accepted prepared.program prepared.rows found c.requires.rows both.0
    (c.in-Ok-Found.ensures.unit found (cc))
    both.1
    in
    subst (IsAcceptedAs text) (sym c.accepted.ensures)
    (accepted-answer text prepared.program prepared.rows found read c.requires.rows.are_rows
    (sym c.in-Ok-Found.ensures.answer ∙ c.in-Ok-Found.field-0-is) accepted)

pub returns-in-Ok-Refuted : goal.returns-in-Ok-Refuted
returns-in-Ok-Refuted c = λ text read.
    let prepared = c.args.prepared in
    let verdict = c.in-Ok-Refuted.verdict in
    let both = c.in-Ok-Refuted.ensures.refuted verdict (cc) in
    subst (λ (e : AcceptError). Answers text (Err e)) (sym c.refuted.ensures.refused)
    (refuted-answer text prepared.program prepared.rows verdict read c.requires.rows
    (sym c.in-Ok-Refuted.ensures.answer ∙ c.in-Ok-Refuted.field-0-is) both.1 c.refuted.ensures.none_meet)

pub returns-in-Ok-Unsolved : goal.returns-in-Ok-Unsolved
returns-in-Ok-Unsolved c = λ text read.
    unsolved-answer text c.args.prepared.program c.args.prepared.rows c.in-Ok-Unsolved.stop read c.requires.rows
    (sym c.in-Ok-Unsolved.ensures.answer ∙ c.in-Ok-Unsolved.field-0-is)
