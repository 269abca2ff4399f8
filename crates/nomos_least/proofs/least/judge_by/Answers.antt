use Rattle.std.proofs.Common.{Err, sym, subst}
use Rattle.nomos_accept.specs.declared.why.AcceptError.{AcceptError}
use Rattle.nomos_least.proofs.BoundLemmas.{bounded-answer, refuted-least, unsolved-least}
use Rattle.nomos_least.proofs.least.judge_by.Goals as goal
use Rattle.nomos_least.specs.LeastBounds.{IsLeastAs, AnswersLeast}
use Rattle.nomos_least.specs.declared.least.LeastBounds.{LeastBounds}
use Rattle.nomos_types.specs.Acceptance.{Acceptance}

pub bounded-requires-clause-found : goal.bounded-requires-clause-found
bounded-requires-clause-found c =
    let is = c.in-Ok-Found.ensures.found c.in-Ok-Found.found c.in-Ok-Found.proof (cc) in
    (is.0, c.in-Ok-Found.ensures.unit c.in-Ok-Found.found c.in-Ok-Found.proof (cc), is.1)

pub bounded-requires-clause-proof : goal.bounded-requires-clause-proof
bounded-requires-clause-proof c = (c.in-Ok-Found.ensures.found c.in-Ok-Found.found c.in-Ok-Found.proof (cc)).2

pub bounded-requires-clause-shows : goal.bounded-requires-clause-shows
bounded-requires-clause-shows c = (c.in-Ok-Found.ensures.found c.in-Ok-Found.found c.in-Ok-Found.proof (cc)).3

pub returns-in-Ok-Found : goal.returns-in-Ok-Found
returns-in-Ok-Found c = λ text read.
    let p = c.args.prepared in
    let found = c.in-Ok-Found.found in
    let proof = c.in-Ok-Found.proof in
    let is = c.in-Ok-Found.ensures.found found proof (cc) in
    let bounds : Acceptance → LeastBounds =
    λ a. record { accepted = a; rows = p.rows; goal = c.args.goal; proof = proof }
    in
    subst (λ (a : Acceptance). IsLeastAs text (bounds a)) (sym c.bounded.ensures.accepted)
    (bounded-answer text p.program p.rows c.args.goal found proof read c.requires.rows c.requires.goal
    (rw c.in-Ok-Found.field-0-is at c.in-Ok-Found.ensures.run) is.0 (c.in-Ok-Found.ensures.unit found proof (cc)) is.1
    is.3 c.bounded.ensures.none_smaller)

pub returns-in-Ok-Refuted : goal.returns-in-Ok-Refuted
returns-in-Ok-Refuted c = λ text read.
    let p = c.args.prepared in
    let verdict = c.in-Ok-Refuted.verdict in
    let is = c.in-Ok-Refuted.ensures.refuted verdict (cc) in
    subst (λ (e : AcceptError). AnswersLeast text (Err e)) (sym c.refuted-refusal.ensures.refused)
    (refuted-least text p.program p.rows c.args.goal verdict read c.requires.rows
    (rw c.in-Ok-Refuted.field-0-is at c.in-Ok-Refuted.ensures.run)
    is.1 c.refuted-refusal.ensures.none_meet)

pub returns-in-Ok-Unsolved : goal.returns-in-Ok-Unsolved
returns-in-Ok-Unsolved c = λ text read.
    let p = c.args.prepared in
    unsolved-least text p.program p.rows c.args.goal c.in-Ok-Unsolved.stop read c.requires.rows c.requires.goal
    (rw c.in-Ok-Unsolved.field-0-is at c.in-Ok-Unsolved.ensures.run)
