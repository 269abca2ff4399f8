-- What it means to answer whether two types are equal.
use Rattle.std.specs.Prelude.{◌≡◌, ◌≢◌, ◌↔◌, List, All, AllPairs, Contains}
use Rattle.nomos_ir.specs.declared.amount.Amount.{Amount}
use Rattle.nomos_ir.specs.declared.ids.TypeId.{TypeId}
use Rattle.nomos_ir.specs.declared.lists.ProgramLists.{ProgramLists}
use Rattle.nomos_types.specs.Amount.{Annotations, dths}
use Rattle.nomos_types.specs.Equality.{EqualShapes, EqualTypes}
use Rattle.nomos_equality.specs.Differences.{DifferAt}
use Rattle.nomos_equality.specs.Paths.{StandAtEqualPaths}
use Rattle.nomos_equality.specs.declared.equality.Equality.{Equality}
use Rattle.nomos_equality.specs.declared.equality.Equality.TheVariants as equality

-- no pair stands twice
abbrev pub StandOnce : List (Amount × Amount) → Type 0
StandOnce pairs = AllPairs (λ p q. p ≢ q) pairs

-- the types have equal shapes, and these are, each once, the pairs of amounts that stand at equal paths
pub record EqualWith (lists : ProgramLists) (a b : TypeId) (given : List (Amount × Amount)) : Type 0 where
  pub shapes : EqualShapes lists a b
  pub pairs : (p : Amount × Amount) → Contains given p ↔ StandAtEqualPaths lists a b p
  pub once : StandOnce given

-- the answer to whether two types are equal
abbrev pub AnswersEquality : ProgramLists → TypeId → TypeId → Equality → Type 0
AnswersEquality lists a b (equality.Yes pairs) = EqualWith lists a b pairs
AnswersEquality lists a b (equality.No path) = DifferAt lists a b path

-- the two amounts of each pair are worth the same
abbrev pub SameWorth : Annotations → List (Amount × Amount) → Type 0
SameWorth x pairs = All (λ p. dths x p.0 ≡ dths x p.1) pairs

-- the answer says that the types are equal under these amounts
abbrev pub SaysEqual : Annotations → Equality → Type 0
SaysEqual x (equality.Yes pairs) = SameWorth x pairs
SaysEqual x (equality.No path) = ⊥

-- the types are equal under exactly those amounts under which the answer says so
abbrev pub IsEqualityExact : ProgramLists → TypeId → TypeId → Equality → Type 0
IsEqualityExact lists a b answer = (x : Annotations) → EqualTypes lists x a b ↔ SaysEqual x answer
