use Rattle.std.proofs.Common.{◌≡◌, ◌+◌, ◌*◌, ◌≤◌, length, map, take, drop}
use Rattle.nomos_elaborate.specs.mirror.Checked.{found}
use Rattle.nomos_elaborate.specs.mirror.CodeCheck.{check_step}
use Rattle.nomos_elaborate.specs.mirror.Each.{each}
use Rattle.nomos_surface.specs.StepView.{step_tree}
use Rattle.nomos_elaborate.specs.mirror.Entries.{all_entries, most_of}
use Rattle.nomos_surface.specs.TreeBounds.{KeepsStep}
use Rattle.nomos_surface.specs.Counts.{in_each, in_step}
use Rattle.nomos_surface.specs.Grammatical.{Each}
use Rattle.nomos_elaborate.proofs.elaborator.Elaborator.steps.Given as goal

-- the steps so far gave what is there so far, and those that are left have room
abbrev pub invariant-loop-step : goal.invariant-loop-step
invariant-loop-step l = record {
  gave : each (λ w s. check_step w (step_tree s)) l.fn.self (take l.step-index l.steps) ≡ found (l.self, l.nodes.items);
  keeps : Each KeepsStep (map step_tree (drop l.step-index l.steps));
  room :
      all_entries l.self + 2 * length l.nodes.items
      + most_of (in_each in_step (map step_tree (drop l.step-index l.steps)))
      ≤ all_entries l.fn.self + most_of (in_each in_step (map step_tree l.steps));
}
