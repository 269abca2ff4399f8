-- What it means to answer whether a shared type is synchronizing.
use Rattle.std.specs.Prelude.{◌≡◌, ◌↔◌, ◌⊎◌, List, Contains, Some}
use Rattle.nomos_ir.specs.declared.amount.Amount.{Amount}
use Rattle.nomos_ir.specs.declared.ids.TypeId.{TypeId}
use Rattle.nomos_ir.specs.declared.lists.ProgramLists.{ProgramLists}
use Rattle.nomos_ir.specs.declared.type_node.TypeNode.TheVariants as node
use Rattle.nomos_ir.specs.Nodes.{type_node}
use Rattle.nomos_ir.specs.Unfold.{Unfolds}
use Rattle.nomos_types.specs.Amount.{Annotations}
use Rattle.nomos_types.specs.Equality.{EqualShapes, no_amounts}
use Rattle.nomos_types.specs.Synchronizing.{IsSynchronizingAt}
use Rattle.nomos_equality.specs.Answer.{StandOnce, SameWorth}
use Rattle.nomos_equality.specs.Comparing.{Compared}
use Rattle.nomos_equality.specs.declared.equality.Comparison.{Comparison}
use Rattle.nomos_equality.specs.declared.equality.Comparison.TheVariants as comparison
use Rattle.nomos_equality.specs.declared.hop.Hop.{Hop}
use Rattle.nomos_equality.specs.Continuing.{Continues, StandAtDown}
use Rattle.nomos_equality.specs.declared.synchronizing.Synced.{Synced}
use Rattle.nomos_equality.specs.declared.synchronizing.Synced.TheVariants as synced

-- at the end of the path of continuations stands a `down` behind which the type has another shape than the shared one
pub record StraysAt (lists : ProgramLists) (from shared : TypeId) (path : List Hop) : Type 0 where
  pub at : TypeId
  pub behind : TypeId
  pub leads : Continues lists path from at
  pub unfolds : Unfolds lists at.0 (node.Down behind)
  pub unequal : ¬ (EqualShapes lists behind shared)

-- the shared type is synchronizing where amounts are ignored, and these are, each once, the pairs of amounts that need
-- to be equal
pub record SynchronizesWith (lists : ProgramLists) (from shared : TypeId) (given : List (Amount × Amount))
    : Type 0 where
  pub shapes : IsSynchronizingAt lists no_amounts from shared
  pub pairs : (p : Amount × Amount) → Contains given p ↔ StandAtDown lists from shared p
  pub once : StandOnce given

-- the answer, for the body of the shared type
abbrev pub AnswersSynchronizing : ProgramLists → TypeId → TypeId → Synced → Type 0
AnswersSynchronizing lists from shared (synced.Yes pairs) = SynchronizesWith lists from shared pairs
AnswersSynchronizing lists from shared (synced.No path) = StraysAt lists from shared path

-- the answer says that the type is synchronizing under these amounts
abbrev pub SaysSynchronizing : Annotations → Synced → Type 0
SaysSynchronizing x (synced.Yes pairs) = SameWorth x pairs
SaysSynchronizing x (synced.No path) = ⊥

-- the type is synchronizing under exactly those amounts under which the answer says so
abbrev pub IsSynchronizingExact : ProgramLists → TypeId → TypeId → Synced → Type 0
IsSynchronizingExact lists from shared answer =
    (x : Annotations) → IsSynchronizingAt lists x from shared ↔ SaysSynchronizing x answer

-- the type is synchronizing where amounts are ignored, and the amounts that need to be equal join those that were there
pub record FindsSynchronizing (lists : ProgramLists) (from shared : TypeId) (old new : Compared) : Type 0 where
  pub shapes : IsSynchronizingAt lists no_amounts from shared
  pub amounts : (q : Amount × Amount) → Contains new.amounts q ↔
      (Contains old.amounts q ⊎ StandAtDown lists from shared q)

-- the answer beside what was compared
abbrev pub AnswersBeside : ProgramLists → TypeId → TypeId → Compared → Compared → Comparison → Type 0
AnswersBeside lists from shared old new comparison.Equal = FindsSynchronizing lists from shared old new
AnswersBeside lists from shared old new (comparison.Different path) = StraysAt lists from shared path

-- the same, of a shared type with its body
abbrev pub AnswersShared : ProgramLists → TypeId → Synced → Type 0
AnswersShared lists shared answer =
    (body : TypeId) → type_node lists shared.0 ≡ Some (node.Up body) → AnswersSynchronizing lists body shared answer

abbrev pub IsSharedExact : ProgramLists → TypeId → Synced → Type 0
IsSharedExact lists shared answer =
    (body : TypeId) → type_node lists shared.0 ≡ Some (node.Up body) → IsSynchronizingExact lists body shared answer

abbrev pub LeadsBack : ProgramLists → TypeId → Compared → Compared → Comparison → Type 0
LeadsBack lists shared old new answer =
    (body : TypeId) → type_node lists shared.0 ≡ Some (node.Up body) → AnswersBeside lists body shared old new answer
