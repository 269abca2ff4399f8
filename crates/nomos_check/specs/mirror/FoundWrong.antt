-- Mirror of the code, on which no promise stands: what a search finds.
use Rattle.std.specs.Prelude.{◌≡◌, Option, Some, None}
use Rattle.nomos_ir.specs.declared.ids.VarId.{VarId}
use Rattle.nomos_ir.specs.Bindings.{bound_to}
use Rattle.nomos_types.specs.Judgement.{ListType}
use Rattle.nomos_check.specs.declared.standing.Carried.{Carried}
use Rattle.nomos_check.specs.declared.standing.Standing.{Standing}
use Rattle.nomos_check.specs.mirror.StandingData.{shape_of_list}

-- What was found has the property, or nothing has it.
abbrev pub IsFound : {X : Type 0} → (X → Type 0) → Option X → Type 0
IsFound P (Some x) = P x
IsFound {X} P None = (x : X) → ¬ (P x)

-- What was found is the list of a variable, and its shape has the property, or nothing has it.
abbrev pub FindsList : Standing → VarId → (ListType → Type 0) → Option Carried → Type 0
FindsList s w P (Some carried) = P (shape_of_list carried) × (bound_to w.0 s.lists ≡ Some carried)
FindsList s w P None = (list : ListType) → ¬ (P list)
