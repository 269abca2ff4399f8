-- The text comes apart at the `/`, if it has one.
use Rattle.std.proofs.Common.{◌∙◌, decimal, refl, sym, ap}
use Rattle.std.proofs.lemmas.Bool.{false≢true}
use Rattle.nomos_printing.proofs.GasLemmas.{no_parts, other_unit, same_unit}
use Rattle.nomos_printing.proofs.number.read_parts.Goals as goal

pub returns-in_err-count : goal.returns-in_err-count
returns-in_err-count c =
    rw c.from_residual.ensures (no_parts c.args.unit c.args.text.now c.requires c.in_err-count.ensures)

pub returns-else-is_decimal : goal.returns-else-is_decimal
returns-else-is_decimal c =
    other_unit c.args.unit c.args.text.now c.in_ok-count.count.now c.in_ok-count.whole.now c.requires
    c.in_ok-count.ensures
    (λ same. absurd (false≢true (c.if-is_decimal.ensures.1 (same ∙ ap decimal (sym c.from.ensures)))))

pub returns-then-is_decimal : goal.returns-then-is_decimal
returns-then-is_decimal c =
    same_unit c.args.unit c.args.text.now c.in_ok-count.count.now c.in_ok-count.whole.now c.read_count.result c.requires
    c.in_ok-count.ensures (c.if-is_decimal.ensures.0 refl ∙ ap decimal c.from.ensures) c.read_count.ensures
