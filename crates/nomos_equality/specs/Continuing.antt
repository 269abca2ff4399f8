-- Paths within one critical section, and the amounts that stand where such paths end.
use Rattle.std.specs.Prelude.{◌≡◌, List, [], ◌∷◌, Option, Some, None}
use Rattle.nomos_ir.specs.declared.amount.Amount.{Amount}
use Rattle.nomos_ir.specs.declared.ids.TypeId.{TypeId}
use Rattle.nomos_ir.specs.declared.lists.ProgramLists.{ProgramLists}
use Rattle.nomos_ir.specs.declared.type_node.TypeNode.{TypeNode}
use Rattle.nomos_ir.specs.declared.type_node.TypeNode.TheVariants as node
use Rattle.nomos_ir.specs.Unfold.{Unfolds}
use Rattle.nomos_types.specs.Branches.{goes_by}
use Rattle.nomos_types.specs.Synchronizing.{Reaches}
use Rattle.nomos_equality.specs.declared.hop.Hop.{Hop}
use Rattle.nomos_equality.specs.declared.hop.Hop.TheVariants as hop
use Rattle.nomos_equality.specs.Paths.{choices_of, next_of, StandAtEqualPaths}

-- the type with which a node goes on that is no choice, none behind `up` and `down`
abbrev pub next_within : TypeNode → Option TypeId
next_within (node.Up a) = None
next_within (node.Down a) = None
next_within n = next_of n

-- the type with which a node goes on by a hop: what is carried is none
abbrev pub continuation_by : TypeNode → Hop → Option TypeId
continuation_by n (hop.Label l) = goes_by (choices_of n) l
continuation_by n hop.Next = next_within n
continuation_by n hop.Carried = None

-- A path of continuations leads from a type to a type; it crosses no `up` and no `down`.
pub data Continues (lists : ProgramLists) : List Hop → TypeId → TypeId → Type 0 where
  stops : (t : TypeId) → Continues lists [] t t
  continues : (h : Hop) (path : List Hop) (t s u : TypeId) (n : TypeNode) → Unfolds lists t.0 n →
      continuation_by n h ≡ Some s → Continues lists path s u → Continues lists (h ∷ path) t u

-- the type with which a shared talk goes on after a `down`
abbrev pub behind_down : TypeNode → Option TypeId
behind_down (node.Down b) = Some b
behind_down _ = None

-- The amounts stand at equal paths of the shared type and of the type behind a `down` that is reached from the first
-- type.
pub record StandAtDown (lists : ProgramLists) (from shared : TypeId) (amounts : Amount × Amount) : Type 0 where
  pub at : TypeId
  pub behind : TypeId
  pub reached : Reaches lists from at
  pub unfolds : Unfolds lists at.0 (node.Down behind)
  pub stand : StandAtEqualPaths lists behind shared amounts
