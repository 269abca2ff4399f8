use Rattle.std.proofs.Common.{List, subst, sym}
use Rattle.nomos_ir.specs.declared.amount.Amount.{Amount}
use Rattle.nomos_equality.specs.Answer.{EqualWith}
use Rattle.nomos_equality.specs.declared.equality.Equality.TheVariants as equality
use Rattle.nomos_equality.proofs.AnswerLaws.{answer-exact}
use Rattle.nomos_equality.proofs.EndLemmas.{equal-answered}
use Rattle.nomos_equality.proofs.equality.equal.Goals as goal

pub returns-in_ok-pairs-in-Equal-clause-answers : goal.returns-in_ok-pairs-in-Equal-clause-answers
returns-in_ok-pairs-in-Equal-clause-answers c =
    let finds = rw c.new-equalities.ensures at (rw c.in-Equal.is at c.in_ok-compare.ensures.answers) in
    subst (λ (pairs : List (Amount × Amount)). EqualWith c.args.program.now c.args.left c.args.right pairs)
    (sym c.in_ok-pairs-in-Equal.ensures)
    (equal-answered c.args.program.now c.args.left c.args.right c.compare.new.self c.in_ok-compare.ensures.compared
    finds)

pub returns-in_ok-pairs-in-Equal-clause-exact : goal.returns-in_ok-pairs-in-Equal-clause-exact
returns-in_ok-pairs-in-Equal-clause-exact c =
    λ x. answer-exact c.args.program.now c.args.left c.args.right (equality.Yes c.in_ok-pairs-in-Equal.pairs) x
    (returns-in_ok-pairs-in-Equal-clause-answers c)

pub returns-in-Different-clause-exact : goal.returns-in-Different-clause-exact
returns-in-Different-clause-exact c =
    let differs = rw c.in-Different.is at c.in_ok-compare.ensures.answers in
    λ x. answer-exact c.args.program.now c.args.left c.args.right (equality.No c.in-Different.path) x differs.0
