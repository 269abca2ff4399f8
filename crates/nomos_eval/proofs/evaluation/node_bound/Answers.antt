-- A variable is one node.
use Rattle.std.proofs.Common.{Option, unwrap_or, ◌∙◌, sym, ap}
use Rattle.nomos_ir.specs.Evaluation.{ends, nought}
use Rattle.nomos_ir.specs.Value.{Value}
use Rattle.nomos_eval.proofs.evaluation.node_bound.Goals as goal

pub returns-in_ok-copy-in-Some : goal.returns-in_ok-copy-in-Some
returns-in_ok-copy-in-Some c = (
  1,
  ap (λ (o : Option Value). ends (unwrap_or o nought) 1) (sym c.in-Some.ensures)
      ∙ ap (λ v. ends v 1) (sym (c.in_ok-copy-in-Some.ensures ∙ c.node.ensures)),
)

pub returns-in-None : goal.returns-in-None
returns-in-None c = (1, ap (λ (o : Option Value). ends (unwrap_or o nought) 1) (sym c.in-None.ensures))
