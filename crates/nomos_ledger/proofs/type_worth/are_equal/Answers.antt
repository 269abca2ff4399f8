use Rattle.std.proofs.Common.{◌≡◌, List, false, true, All, sym, subst}
use Rattle.nomos_ir.specs.declared.amount.Amount.{Amount}
use Rattle.nomos_ir.specs.declared.lists.ProgramLists.{ProgramLists}
use Rattle.nomos_equality.specs.Answer.{AnswersEquality, EqualWith, SameWorth, SaysEqual}
use Rattle.nomos_equality.specs.declared.equality.Equality.{Equality}
use Rattle.nomos_types.specs.Acceptance.{IsAmountOf}
use Rattle.nomos_types.specs.Equality.{EqualTypes}
use Rattle.nomos_ledger.proofs.WorthLemmas.{answer-amounts}
use Rattle.nomos_ledger.proofs.type_worth.are_equal.Goals as goal

pub same_worth-requires : goal.same_worth-requires
same_worth-requires c =
    let lists = c.args.accepted.now.program in
    let Answers : ProgramLists → Equality → Type 0 = λ l e. AnswersEquality l c.args.left c.args.right e in
    let at : Answers lists c.in_ok-pairs.field-0 =
    subst (λ (l : ProgramLists). Answers l c.in_ok-pairs.field-0) c.program.ensures.program
    c.in_ok-pairs.ensures.answers in
    let with : EqualWith lists c.args.left c.args.right c.in-Yes.pairs = subst (Answers lists) c.in-Yes.is at in
    let P : Amount × Amount → Type 0 = λ p. IsAmountOf lists p.0 × IsAmountOf lists p.1 in
    subst (All P) (sym c.as_slice.ensures)
    (answer-amounts c.program.ensures.accepted.is_program c.in-Yes.pairs with)

pub returns-in-Yes : goal.returns-in-Yes
returns-in-Yes c =
    let a = c.args.accepted.now in
    let Says : Equality → Type 0 = SaysEqual a.annotations in
    let Worth : List (Amount × Amount) → Type 0 = SameWorth a.annotations in
    let Equal : ProgramLists → Type 0 = λ l. EqualTypes l a.annotations c.args.left c.args.right in
    let exact = c.in_ok-pairs.ensures.exact a.annotations in (
      λ yes.
          subst Equal c.program.ensures.program
          (exact.1 (subst Says (sym c.in-Yes.is) (subst Worth c.as_slice.ensures (c.same_worth.ensures.0 yes)))),
      λ equal.
          c.same_worth.ensures.1 (subst Worth (sym c.as_slice.ensures)
          (subst Says c.in-Yes.is (exact.0 (subst Equal (sym c.program.ensures.program) equal)))),
    )

pub returns-in-No : goal.returns-in-No
returns-in-No c =
    let a = c.args.accepted.now in
    let Says : Equality → Type 0 = SaysEqual a.annotations in
    let Equal : ProgramLists → Type 0 = λ l. EqualTypes l a.annotations c.args.left c.args.right in
    let exact = c.in_ok-pairs.ensures.exact a.annotations in (
      λ (yes : false ≡ true). absurd cc,
      λ equal. absurd (subst Says c.in-No.is (exact.0 (subst Equal (sym c.program.ensures.program) equal))),
    )
