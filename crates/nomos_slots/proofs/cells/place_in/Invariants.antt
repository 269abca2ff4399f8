use Rattle.std.proofs.Common.{◌≡◌, ◌≤◌, ◌<◌, ℕ, Some, false}
use Rattle.nomos_slots.specs.Cells.{cell_at, home, is_of}
use Rattle.nomos_slots.specs.declared.cells.NamedVariable.{NamedVariable}
use Rattle.nomos_slots.proofs.cells.place_in.Given as goal

abbrev pub invariant-loop-at : goal.invariant-loop-at
invariant-loop-at l = (i : ℕ) (e : NamedVariable) → home l.homes l.process l.variable ≤ i → i < l.at
    → cell_at l.cells.now i ≡ Some e → is_of l.process l.variable e ≡ false
