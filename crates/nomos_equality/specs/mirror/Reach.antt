-- A mirror of the code: the walk through all types to which paths lead from a type.
use Rattle.std.specs.Prelude.{◌≡◌, ◌<◌, ℕ, List, length, All, Contains, Some}
use Rattle.nomos_ir.specs.declared.ids.Label.{Label}
use Rattle.nomos_ir.specs.declared.ids.TypeId.{TypeId}
use Rattle.nomos_ir.specs.declared.lists.ProgramLists.{ProgramLists}
use Rattle.nomos_ir.specs.declared.type_node.TypeNode.{TypeNode}
use Rattle.nomos_ir.specs.Nodes.{type_node}
use Rattle.nomos_types.specs.Unfolding.{IsUnfolding}
use Rattle.nomos_equality.specs.declared.hop.Hop.{Hop}
use Rattle.nomos_equality.specs.declared.hop.Hop.TheVariants as hop
use Rattle.nomos_equality.specs.Comparing.{IsFront}
use Rattle.nomos_equality.specs.Paths.{part_by}

-- each visit is a type of the program
abbrev pub AreTypes : ProgramLists → List ℕ → Type 0
AreTypes lists visits = All (λ at. at < length lists.types) visits

-- the type, behind its name, was met
pub record IsVisited (lists : ProgramLists) (visits : List ℕ) (t : TypeId) : Type 0 where
  pub at : ℕ
  pub is : IsUnfolding lists t.0 at
  pub among : Contains visits at

-- all visits stay, each in its place, and those that join them are types of the program
pub record WalksOn (lists : ProgramLists) (old new : List ℕ) : Type 0 where
  pub front : IsFront old new
  pub types : AreTypes lists old → AreTypes lists new

-- the part of a type by a hop is met
abbrev pub MeetsPart : ProgramLists → ℕ → Hop → List ℕ → Type 0
MeetsPart lists at h visits =
    (n : TypeNode) (t : TypeId) → type_node lists at ≡ Some n → part_by n h ≡ Some t → IsVisited lists visits t

-- the parts by each label are met
abbrev pub MeetsLabels : ProgramLists → ℕ → List ℕ → Type 0
MeetsLabels lists at visits = (l : Label) → MeetsPart lists at (hop.Label l) visits

-- all parts of a type are met
abbrev pub MeetsParts : ProgramLists → ℕ → List ℕ → Type 0
MeetsParts lists at visits = (h : Hop) → MeetsPart lists at h visits
