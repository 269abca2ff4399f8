use Rattle.std.proofs.Common.{◌≡◌, ◌∙◌, ℕ, List, ◌++◌, OnOk, length, subst, sym}
use Rattle.nomos_machine.specs.TypedState.{IsTyped}
use Rattle.nomos_legal.proofs.WorldLaws.{world-typed}
use Rattle.nomos_report.specs.Reported.{end_lines}
use Rattle.nomos_report.proofs.SpentLaws.{starts-spent}
use Rattle.nomos_report.proofs.course.push_batch_end.Goals as goal

pub push_course_end-requires-clause-typed : goal.push_course_end-requires-clause-typed
push_course_end-requires-clause-typed g c =
    subst (IsTyped c.args.accepted.now) (sym c.state.ensures.state)
    (world-typed c.know.ensures.accepted c.requires.stands)

pub push_course_end-requires-clause-over : goal.push_course_end-requires-clause-over
push_course_end-requires-clause-over g c = rw c.state.ensures.state c.before_transactions.ensures

pub returns : goal.returns
returns g c =
    let a = c.args.accepted.now in
    let w = c.args.world.now in
    let spent = c.requires.spent ∙ sym (starts-spent a w.origin w.starts) in
    subst
    (λ (t : List ℕ). OnOk c.push_course_end.result (c.push_course_end.new.text.items ≡ c.args.text.now.items ++ t))
    (λ i. end_lines a c.args.outset.line (length (c.firings.ensures i)) (spent i) (c.state.ensures.state i)
    c.args.end.now)
    c.push_course_end.ensures
