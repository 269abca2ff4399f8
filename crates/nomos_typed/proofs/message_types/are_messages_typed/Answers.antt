use Rattle.std.proofs.Common.{◌∙◌, List, All, subst, sym}
use Rattle.nomos_ir.specs.declared.amount.Amount.{Amount}
use Rattle.nomos_types.specs.Acceptance.{IsAmountOf}
use Rattle.nomos_typed.proofs.HeadLemmas.{compared-amounts}
use Rattle.nomos_typed.proofs.message_types.are_messages_typed.Goals as goal

pub same_worth-requires : goal.same_worth-requires
same_worth-requires c =
    let lists = c.args.accepted.now.program in
    let ArePairOf : Amount × Amount → Type 0 = λ p. IsAmountOf lists p.0 × IsAmountOf lists p.1 in
    subst (λ (l : List (Amount × Amount)). All ArePairOf l) (sym (c.as_slice-4.ensures ∙ c.in_ok-amounts.ensures))
    (compared-amounts c.program.ensures.accepted.is_program c.all_typed.new.equalities c.all_typed.ensures.compared)
