-- The values that were appended and those that are left are all of them.
use Rattle.std.proofs.Common.{◌≡◌, ◌++◌, ◌≤◌}
use Rattle.nomos_ir.specs.Row.{row_weight}
use Rattle.nomos_ir.specs.Value.{value_list}
use Rattle.nomos_printing.specs.ValueTexts.{row_text, tail_text}
use Rattle.nomos_printing.proofs.value_texts.+appended.Given as goal

abbrev pub invariant-push_row-loop-next : goal.invariant-push_row-loop-next
invariant-push_row-loop-next l =
    (l.text.items ++ tail_text (value_list l.left) ≡ l.fn.text.items ++ row_text (value_list l.fn.values))
    × (row_weight l.left ≤ row_weight l.fn.values)
