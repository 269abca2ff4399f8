-- A mirror of the code: what is found of the shared types among the type nodes below a place. No promise stands on it.
use Rattle.std.specs.Prelude.{◌≡◌, ◌↔◌, ◌⊎◌, ℕ, List, Contains, Option, Some, None}
use Rattle.nomos_ir.specs.declared.amount.Amount.{Amount}
use Rattle.nomos_ir.specs.declared.ids.TypeId.{TypeId}
use Rattle.nomos_ir.specs.declared.lists.ProgramLists.{ProgramLists}
use Rattle.nomos_ir.specs.declared.type_node.TypeNode.TheVariants as node
use Rattle.nomos_ir.specs.Nodes.{type_node}
use Rattle.nomos_equality.specs.Comparing.{Compared}
use Rattle.nomos_equality.specs.declared.hop.Hop.{Hop}
use Rattle.nomos_equality.specs.Continuing.{StandAtDown}
use Rattle.nomos_equality.specs.SyncAnswer.{StraysAt}
use Rattle.nomos_types.specs.Equality.{no_amounts}
use Rattle.nomos_types.specs.Forming.{StandsAtOffset}
use Rattle.nomos_types.specs.Synchronizing.{IsSynchronizingAt}
use Rattle.nomos_rows.specs.mirror.FirstFault.{SomeBelow}

-- the node is an `up`, and the pair stands where it leads back
pub record StandsBehind (lists : ProgramLists) (t : ℕ) (pair : Amount × Amount) : Type 0 where
  pub body : TypeId
  pub is_up : type_node lists t ≡ Some (node.Up body)
  pub stand : StandAtDown lists body (record { 0 = t }) pair

-- the node is an `up` of this offset that does not lead back
pub record GoesAstray (lists : ProgramLists) (t : ℕ) (at : ℕ) (path : List Hop) : Type 0 where
  pub body : TypeId
  pub is_up : type_node lists t ≡ Some (node.Up body)
  pub offset : StandsAtOffset lists (record { 0 = t }) at
  pub offends : StraysAt lists body (record { 0 = t }) path

-- the node leads back where amounts are ignored, if it is an `up`
abbrev pub GoesBack : ProgramLists → ℕ → Type 0
GoesBack lists t =
    (body : TypeId) → type_node lists t ≡ Some (node.Up body)
    → IsSynchronizingAt lists no_amounts body (record { 0 = t })

-- the pairs of amounts are those of before and those that P tells
abbrev pub PairsJoin : Compared → Compared → (Amount × Amount → Type 0) → Type 0
PairsJoin old new P = (pair : Amount × Amount) → Contains new.amounts pair ↔ (Contains old.amounts pair ⊎ P pair)

-- nothing was found, and then it holds
abbrev pub IfNone : {X : Type 0} → Type 0 → Option X → Type 0
IfNone P None = P
IfNone P (Some x) = Unit {0}

-- the pairs of one node, and of the nodes below the place
abbrev pub PairsOfOne : ProgramLists → ℕ → Compared → Compared → Type 0
PairsOfOne lists t old new = PairsJoin old new (StandsBehind lists t)

abbrev pub PairsBelow : ProgramLists → ℕ → Compared → Compared → Type 0
PairsBelow lists place old new = PairsJoin old new (λ pair. SomeBelow place (λ t. StandsBehind lists t pair))
