use Rattle.std.proofs.Common.{◌≡◌, ◌<◌, ◌==◌, ℕ, Some, false}
use Rattle.nomos_slots.specs.Cells.{cell_at}
use Rattle.nomos_slots.specs.declared.cells.NamedVariable.{NamedVariable}
use Rattle.nomos_slots.proofs.sweeps.entry_of.Given as goal

abbrev pub invariant-loop-at : goal.invariant-loop-at
invariant-loop-at l = (place : ℕ) (e : NamedVariable) → place < l.at → cell_at l.cells.now place ≡ Some e
    → (e.process == l.process) ≡ false
