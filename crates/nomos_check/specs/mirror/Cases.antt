-- A mirror of the code: where the arms of a `case` lead.
use Rattle.std.specs.Prelude.{◌≡◌, List, [], ◌∷◌, Contains, None, Some}
use Rattle.nomos_ir.specs.declared.code_node.Arm.{Arm}
use Rattle.nomos_ir.specs.declared.code_node.Chan.{Chan}
use Rattle.nomos_ir.specs.declared.ids.Label.{Label}
use Rattle.nomos_ir.specs.declared.ids.TypeId.{TypeId}
use Rattle.nomos_ir.specs.declared.type_node.Branch.{Branch}
use Rattle.nomos_types.specs.Branches.{goes_by}
use Rattle.nomos_check.specs.declared.standing.WayOn.{WayOn}
use Rattle.nomos_check.specs.declared.standing.WayOn.TheVariants as way

-- some arm has the label
abbrev pub HasArm : List Arm → Label → Type 0
HasArm arms label = (a : Arm) × Contains arms a × (a.label.0 ≡ label.0)

-- each arm leads on the way in its place, on which the channel goes on as the branches say
pub data AreWays (c : Chan) (branches : List Branch) : List Arm → List WayOn → Type 0 where
  none : AreWays c branches [] []
  arm : {a : Arm} {arms : List Arm} {ways : List WayOn} → (t : TypeId) → goes_by branches a.label ≡ Some t
      → AreWays c branches arms ways → AreWays c branches (a ∷ arms) (way.Label c t a.goes ∷ ways)

-- some arm's label is that of no branch
abbrev pub HasOddArm : List Branch → List Arm → Type 0
HasOddArm branches arms = (a : Arm) × Contains arms a × (goes_by branches a.label ≡ None)
