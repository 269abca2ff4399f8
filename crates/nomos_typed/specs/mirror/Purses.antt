-- A mirror of the code: what lists carry, one after the other.
use Rattle.std.specs.Prelude.{ℕ, ◌+◌, ◌*◌, List, [], ◌∷◌, length}
use Rattle.nomos_ir.specs.declared.ids.VarId.{VarId}
use Rattle.nomos_machine.specs.declared.object.PotentialList.{PotentialList}

abbrev pub carried_in : List (VarId × PotentialList) → ℕ
carried_in [] = 0
carried_in (e ∷ es) = e.1.amount * length e.1.items + carried_in es
