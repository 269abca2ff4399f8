-- Paths through the unfoldings of types, and the amounts that stand at equal paths of two types.
use Rattle.std.specs.Prelude.{◌≡◌, List, [], ◌∷◌, Option, Some, None}
use Rattle.nomos_ir.specs.declared.amount.Amount.{Amount}
use Rattle.nomos_ir.specs.declared.ids.TypeId.{TypeId}
use Rattle.nomos_ir.specs.declared.lists.ProgramLists.{ProgramLists}
use Rattle.nomos_ir.specs.declared.type_node.Branch.{Branch}
use Rattle.nomos_ir.specs.declared.type_node.TypeNode.{TypeNode}
use Rattle.nomos_ir.specs.declared.type_node.TypeNode.TheVariants as node
use Rattle.nomos_ir.specs.Unfold.{Unfolds}
use Rattle.nomos_types.specs.Branches.{goes_by}
use Rattle.nomos_equality.specs.declared.hop.Hop.{Hop}
use Rattle.nomos_equality.specs.declared.hop.Hop.TheVariants as hop

-- the branches of a choice, none of any other node
abbrev pub choices_of : TypeNode → List Branch
choices_of (node.Plus branches) = branches
choices_of (node.With branches) = branches
choices_of _ = []

-- the type with which a node goes on that is no choice, behind `up` and `down` too
abbrev pub next_of : TypeNode → Option TypeId
next_of (node.Tensor a b) = Some b
next_of (node.Lolli a b) = Some b
next_of (node.ValueOut kind a) = Some a
next_of (node.ValueIn kind a) = Some a
next_of (node.PotOut amount a) = Some a
next_of (node.PotIn amount a) = Some a
next_of (node.Up a) = Some a
next_of (node.Down a) = Some a
next_of _ = None

-- the type of the channel that a node sends or receives
abbrev pub carried_of : TypeNode → Option TypeId
carried_of (node.Tensor a b) = Some a
carried_of (node.Lolli a b) = Some a
carried_of _ = None

-- the part of a node to which a hop leads
abbrev pub part_by : TypeNode → Hop → Option TypeId
part_by n (hop.Label l) = goes_by (choices_of n) l
part_by n hop.Next = next_of n
part_by n hop.Carried = carried_of n

-- A path leads from a type to a type: each hop from what the type unfolds to, to a part of it.
pub data PathLeads (lists : ProgramLists) : List Hop → TypeId → TypeId → Type 0 where
  ends : (t : TypeId) → PathLeads lists [] t t
  hops : (h : Hop) (path : List Hop) (t s u : TypeId) (n : TypeNode) → Unfolds lists t.0 n → part_by n h ≡ Some s →
      PathLeads lists path s u → PathLeads lists (h ∷ path) t u

-- the amount that a node pays or gets
abbrev pub paid_by : TypeNode → Option Amount
paid_by (node.PotOut amount a) = Some amount
paid_by (node.PotIn amount a) = Some amount
paid_by _ = None

-- what stands at one path from each of two types
pub record AtEqualPaths (lists : ProgramLists) (a b : TypeId) : Type 0 where
  pub path : List Hop
  pub left_type : TypeId
  pub right_type : TypeId
  pub left_leads : PathLeads lists path a left_type
  pub right_leads : PathLeads lists path b right_type
  pub left : TypeNode
  pub right : TypeNode
  pub left_unfolds : Unfolds lists left_type.0 left
  pub right_unfolds : Unfolds lists right_type.0 right

-- the two amounts stand at equal paths of the two types
pub record StandAtEqualPaths (lists : ProgramLists) (a b : TypeId) (amounts : Amount × Amount) : Type 0 where
  pub place : AtEqualPaths lists a b
  pub left_pays : paid_by place.left ≡ Some amounts.0
  pub right_pays : paid_by place.right ≡ Some amounts.1

-- no path leads from the type to one that pays or gets an amount
abbrev pub PaysNowhere : ProgramLists → TypeId → Type 0
PaysNowhere lists t =
    (path : List Hop) (s : TypeId) (n : TypeNode) → PathLeads lists path t s → Unfolds lists s.0 n → paid_by n ≡ None
