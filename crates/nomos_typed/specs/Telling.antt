-- What is answered to a question for which types are compared, beside what was compared before.
use Rattle.std.specs.Prelude.{◌↔◌, Bool, true, false, List}
use Rattle.nomos_equality.specs.Answer.{SameWorth}
use Rattle.nomos_ir.specs.declared.amount.Amount.{Amount}
use Rattle.nomos_types.specs.Amount.{Annotations}

-- No says that it does not hold. Yes says that it holds exactly where, beside the pairs of amounts that were there,
-- both amounts of each that joined are worth the same.
abbrev pub Tells : Annotations → List (Amount × Amount) → List (Amount × Amount) → Type 0 → Bool → Type 0
Tells x old new P true = SameWorth x new ↔ (SameWorth x old × P)
Tells x old new P false = ¬ P
