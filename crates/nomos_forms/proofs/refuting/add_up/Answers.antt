use Rattle.std.proofs.Common.{rules, FitsSigned, sym, ◌∙◌}
use Rattle.std.specs.Int.{w128}
use Rattle.std.proofs.lemmas.Int.{to_z-of_z}
use Rattle.nomos_forms.proofs.refuting.add_up.Goals as goal

pub returns-then-is_count : goal.returns-then-is_count
returns-then-is_count c =
    let fits : FitsSigned w128 c.sum_of_least-least.result = search rules in
    let is = sym c.sum_of_least-least.ensures.value ∙ sym (to_z-of_z w128 c.sum_of_least-least.result fits)
    ∙ c.is_count.ensures.0 c.if-is_count.true in
    (λ e. (c.leaves_no_star.ensures.0 e, is), λ h. c.leaves_no_star.ensures.1 h.0)
