-- What is said of a small test is what its evaluation decides.
use Rattle.std.proofs.Common.{sym, ap, ◌∙◌, Some, subst}
use Rattle.nomos_ir.specs.declared.lists.ProgramLists.{ProgramLists}
use Rattle.nomos_ir.specs.Evaluation.{term_evaluation}
use Rattle.nomos_eval.specs.SmallTest.{Decides, IsSmallTest}
use Rattle.nomos_eval.proofs.SmallLemmas.{small-variable, small-less, small-equal}
use Rattle.nomos_eval.proofs.small.small_truth.Goals as goal

pub returns-in-Var : goal.returns-in-Var
returns-in-Var c =
    let P : ProgramLists → Type 0 = λ l.
    IsSmallTest l c.args.t.0 × Decides (term_evaluation l c.args.env.now c.args.t) c.is_true.result in
    subst P c.lists-lists.ensures.lists
    (small-variable c.lists-lists.result.now c.args.env.now c.args.t _ c.in-Var.v c.is_true.result
    (sym c.in_ok-v.ensures ∙ ap Some c.in-Var.is) c.is_true.ensures)

pub returns-in_ok-right-in-Less : goal.returns-in_ok-right-in-Less
returns-in_ok-right-in-Less c =
    let P : ProgramLists → Type 0 = λ l.
    IsSmallTest l c.args.t.0 × Decides (term_evaluation l c.args.env.now c.args.t) c.is_less.result in
    subst P c.lists-lists.ensures.lists
    (small-less c.lists-lists.result.now c.args.env.now c.args.t _ c.in-Less.a c.in-Less.b c.in_ok-left-in-Less.left
    c.in_ok-right-in-Less.right c.is_less.result (sym c.in_ok-v.ensures ∙ ap Some c.in-Less.is)
    c.in_ok-left-in-Less.ensures.0 c.in_ok-left-in-Less.ensures.1 c.in_ok-right-in-Less.ensures.0
    c.in_ok-right-in-Less.ensures.1 c.is_less.ensures)

pub returns-in_ok-right-in-Equal : goal.returns-in_ok-right-in-Equal
returns-in_ok-right-in-Equal c =
    let P : ProgramLists → Type 0 = λ l.
    IsSmallTest l c.args.t.0 × Decides (term_evaluation l c.args.env.now c.args.t) c.is_equal.result in
    subst P c.lists-lists.ensures.lists
    (small-equal c.lists-lists.result.now c.args.env.now c.args.t _ c.in-Equal.a c.in-Equal.b
    c.in_ok-left-in-Equal.left c.in_ok-right-in-Equal.right c.is_equal.result
    (sym c.in_ok-v.ensures ∙ ap Some c.in-Equal.is) c.in_ok-left-in-Equal.ensures.0 c.in_ok-left-in-Equal.ensures.1
    c.in_ok-right-in-Equal.ensures.0 c.in_ok-right-in-Equal.ensures.1 c.is_equal.ensures)
