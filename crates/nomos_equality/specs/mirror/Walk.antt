-- A mirror of the code: the walk through the continuations of a type.
use Rattle.std.specs.Prelude.{◌≡◌, ◌<◌, ℕ, List, [], ◌∷◌, ◌++◌, Contains, Option, Some, None, Bool, MatchBool, slice_get}
use Rattle.nomos_ir.specs.declared.ids.Label.{Label}
use Rattle.nomos_ir.specs.declared.ids.TypeId.{TypeId}
use Rattle.nomos_ir.specs.declared.lists.ProgramLists.{ProgramLists}
use Rattle.nomos_ir.specs.declared.type_node.Branch.{Branch}
use Rattle.nomos_ir.specs.declared.type_node.TypeNode.{TypeNode}
use Rattle.nomos_ir.specs.declared.type_node.TypeNode.TheVariants as node
use Rattle.nomos_ir.specs.Nodes.{type_node}
use Rattle.nomos_ir.specs.Program.{IsProgram}
use Rattle.nomos_ir.specs.Unfold.{IsContractive}
use Rattle.nomos_types.specs.Equality.{EqualShapes}
use Rattle.nomos_types.specs.Unfolding.{IsUnfolding}
use Rattle.nomos_equality.specs.Comparing.{Compared, FindsEqual}
use Rattle.nomos_equality.specs.declared.hop.Hop.{Hop}
use Rattle.nomos_equality.specs.declared.hop.Hop.TheVariants as hop
use Rattle.nomos_equality.specs.Continuing.{continuation_by}
use Rattle.nomos_equality.specs.Paths.{choices_of}
use Rattle.nomos_equality.specs.declared.continuation_walk.Arrival.{Arrival}

-- the types that were met, behind their names, each with the hop by which it was met first
abbrev pub Visits : Type 0
Visits = List (ℕ × Option Arrival)

-- the program is one, and no definition is a bare name
pub record IsWalkable (lists : ProgramLists) : Type 0 where
  pub program : IsProgram lists
  pub contractive : IsContractive lists

-- the type, behind its name, was met
pub record IsVisited (lists : ProgramLists) (visits : Visits) (t : TypeId) : Type 0 where
  pub at : ℕ
  pub from : Option Arrival
  pub is : IsUnfolding lists t.0 at
  pub among : Contains visits (at, from)

-- a type is met by a hop: it was met before, or is put at the end
pub data MeetsType (lists : ProgramLists) (old : Visits) (t : TypeId) (from : Option Arrival) (new : Visits) : Type 0
  where
    known : IsVisited lists old t → new ≡ old → MeetsType lists old t from new
    fresh : (at : ℕ) → IsUnfolding lists t.0 at → new ≡ old ++ (at, from) ∷ [] → MeetsType lists old t from new

-- by a hop from a visit a type is met
pub record LeadsOn (lists : ProgramLists) (visits : Visits) (o : Arrival) (t : TypeId) : Type 0 where
  pub at : ℕ
  pub from : Option Arrival
  pub there : slice_get visits o.visit ≡ Some (at, from)
  pub node : TypeNode
  pub node_there : type_node lists at ≡ Some node
  pub part : continuation_by node o.hop ≡ Some t

-- one list of visits goes on to another, by meeting continuations of what was visited
pub data WalksTo (lists : ProgramLists) (old : Visits) : Visits → Type 0 where
  stays : WalksTo lists old old
  meets : (mid new : Visits) (o : Arrival) (t : TypeId) → WalksTo lists old mid → LeadsOn lists mid o t →
      MeetsType lists mid t (Some o) new → WalksTo lists old new

-- at this number stands the visit of this type
abbrev pub StandsVisited : Visits → ℕ → ℕ → Type 0
StandsVisited visits number at = (from : Option Arrival) × (slice_get visits number ≡ Some (at, from))

-- at this number stands a visit that was met by this hop
abbrev pub WasMetBy : Visits → ℕ → Option Arrival → Type 0
WasMetBy visits number from = (at : ℕ) × (slice_get visits number ≡ Some (at, from))

-- the branch is one of the choice that stands there
abbrev pub HasBranch : ProgramLists → ℕ → Branch → Type 0
HasBranch lists at branch = (n : TypeNode) × (type_node lists at ≡ Some n) × Contains (choices_of n) branch

-- the continuation of a type by a hop is met
abbrev pub FollowsHop : ProgramLists → ℕ → Hop → Visits → Type 0
FollowsHop lists at h visits =
    (node : TypeNode) (t : TypeId) → type_node lists at ≡ Some node → continuation_by node h ≡ Some t →
    IsVisited lists visits t

-- the continuations by each label are met
abbrev pub FollowsEachLabel : ProgramLists → ℕ → Visits → Type 0
FollowsEachLabel lists at visits = (l : Label) → FollowsHop lists at (hop.Label l) visits

-- all continuations of a type are met
abbrev pub FollowsAll : ProgramLists → ℕ → Visits → Type 0
FollowsAll lists at visits = (h : Hop) → FollowsHop lists at h visits

-- the hops by which a visit was reached from the beginning
pub data WayTo (visits : Visits) : ℕ → List Hop → Type 0 where
  begins : (i at : ℕ) → slice_get visits i ≡ Some (at, None) → WayTo visits i []
  onward : (i at : ℕ) (o : Arrival) (path : List Hop) → slice_get visits i ≡ Some (at, Some o) →
      WayTo visits o.visit path → WayTo visits i (path ++ o.hop ∷ [])

-- each visit was met from an earlier one
abbrev pub VisitsAreInOrder : Visits → Type 0
VisitsAreInOrder visits = (i at : ℕ) (o : Arrival) → slice_get visits i ≡ Some (at, Some o) → o.visit < i

-- behind the type, where it is a `down`, stands a type that was found equal to the shared one; elsewhere nothing was
-- compared
pub data AgreesBehind (lists : ProgramLists) (at shared : TypeId) (old new : Compared) : Type 0 where
  no_down : ((b : TypeId) → type_node lists at.0 ≡ Some (node.Down b) → ⊥) → new ≡ old →
      AgreesBehind lists at shared old new
  down : (b : TypeId) → type_node lists at.0 ≡ Some (node.Down b) → FindsEqual lists b shared old new →
      AgreesBehind lists at shared old new

-- the type is a `down`, behind which the type has another shape than the shared one
pub record DiffersBehind (lists : ProgramLists) (at shared : TypeId) : Type 0 where
  pub behind : TypeId
  pub there : type_node lists at.0 ≡ Some (node.Down behind)
  pub unequal : ¬ (EqualShapes lists behind shared)

-- what is found behind a type, by the answer
abbrev pub TellsBehind : ProgramLists → TypeId → TypeId → Compared → Compared → Bool → Type 0
TellsBehind lists at shared old new same =
    MatchBool same (AgreesBehind lists at shared old new) (DiffersBehind lists at shared)
