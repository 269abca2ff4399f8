use Rattle.std.proofs.Common.{◌∙◌, ◌↔◌, Bool, Option, IfSome, IsTrue, subst, sym}
use Rattle.nomos_types.specs.Acceptance.{Acceptance}
use Rattle.nomos_types.specs.Equality.{EqualTypes}
use Rattle.nomos_ledger.proofs.AnswerLemmas.{known-exact}
use Rattle.nomos_ledger.proofs.start_arguments.Arguments.known.Goals as goal

pub returns : goal.returns
returns c =
    let Told : Acceptance → Option Bool → Type 0 = λ a o.
    IfSome o (λ same. IsTrue same ↔ EqualTypes a.program a.annotations c.args.left c.args.right) in
    let found = c.copied.ensures ∙ c.get.ensures.value in
    let told = known-exact c.self.inside.accepted.now c.self.inside.answers.entries c.args.left c.args.right
    c.self.invariant.answered in
    subst (λ (a : Acceptance). Told a c.copied.result) c.self.view_is
    (subst (Told c.self.inside.accepted.now) (sym found) told)
