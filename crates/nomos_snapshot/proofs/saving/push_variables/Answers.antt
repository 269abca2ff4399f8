-- The lowest variable that is left is written.
use Rattle.std.proofs.Common.{[], ◌∷◌, length, ap, arith}
use Rattle.nomos_snapshot.specs.Text.{variable_lines}
use Rattle.nomos_snapshot.specs.mirror.Remaining.{lowest_line, remaining_lines}
use Rattle.nomos_snapshot.proofs.SavingLemmas.{ahead-end, ahead-more, ahead-start}
use Rattle.nomos_snapshot.proofs.saving.push_variables.Goals as goal

pub loop-variable-init : goal.loop-variable-init
loop-variable-init c = (
  λ lists. ahead-start c.args.text.now.items (variable_lines c.args.process.now) (remaining_lines c.of-left.result)
      c.of-left.ensures.lines,
  c.of-left.ensures.left,
)

pub loop-variable-preserved : goal.loop-variable-preserved
loop-variable-preserved c = (
  λ lists.
      let pushed = rw c.in_ok-push_variable.was at (c.push_variable.ensures lists) in
      ahead-more (lowest_line c.in-Some.variable ∷ []) (remaining_lines c.next_lowest.new.self)
      (remaining_lines c.loop-variable.left) c.in-Some.ensures.lines (c.loop-variable.invariant.0 lists) pushed,
  c.in-Some.ensures.left,
)

pub loop-variable-smaller : goal.loop-variable-smaller
loop-variable-smaller c = omega (arith, ap length c.in-Some.ensures.lines)

pub returns : goal.returns
returns c = λ lists.
    ahead-end (remaining_lines c.loop-variable.left) c.in_default.ensures (c.loop-variable.invariant.0 lists)
