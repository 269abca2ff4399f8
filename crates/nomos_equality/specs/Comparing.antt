-- What has been compared so far, in one program.
use Rattle.std.specs.Prelude.{◌≡◌, ◌↔◌, ◌⊎◌, List, [], ◌++◌, All, Contains}
use Rattle.nomos_ir.specs.declared.amount.Amount.{Amount}
use Rattle.nomos_ir.specs.declared.ids.TypeId.{TypeId}
use Rattle.nomos_ir.specs.declared.lists.ProgramLists.{ProgramLists}
use Rattle.nomos_types.specs.Equality.{EqualShapes}
use Rattle.nomos_equality.specs.Answer.{StandOnce}
use Rattle.nomos_equality.specs.Differences.{DifferAt}
use Rattle.nomos_equality.specs.Paths.{StandAtEqualPaths, PaysNowhere}
use Rattle.nomos_equality.specs.declared.equality.Comparison.{Comparison}
use Rattle.nomos_equality.specs.declared.equality.Comparison.TheVariants as comparison

-- pairs of types that were compared, the pairs of amounts that stand at equal paths of these, and pairs of types of
-- equal shapes from which no amount is reached
pub record Compared : Type 0 where
  pub types : List (TypeId × TypeId)
  pub amounts : List (Amount × Amount)
  pub free : List (TypeId × TypeId)

-- nothing
abbrev pub nothing_compared : Compared
nothing_compared = record { types = []; amounts = []; free = [] }

-- the two types have equal shapes, and no amount is reached from the first
abbrev pub AreFree : ProgramLists → TypeId × TypeId → Type 0
AreFree lists p = EqualShapes lists p.0 p.1 × PaysNowhere lists p.0

-- the types of each pair have equal shapes, and the amounts are, each once, those at equal paths of these pairs; the
-- pairs that are told to be free are so
pub record HasCompared (lists : ProgramLists) (c : Compared) : Type 0 where
  pub equal : All (λ p. EqualShapes lists p.0 p.1) c.types
  pub amounts : (q : Amount × Amount) → Contains c.amounts q ↔
      ((p : TypeId × TypeId) × Contains c.types p × StandAtEqualPaths lists p.0 p.1 q)
  pub once : StandOnce c.amounts
  pub free : All (AreFree lists) c.free

-- what was there stays in front
pub record IsFront {X : Type 0} (old new : List X) : Type 0 where
  pub more : List X
  pub is : new ≡ old ++ more

-- all pairs of types and of amounts that stood stand still, each in its place
pub record StaysCompared (old new : Compared) : Type 0 where
  pub types : IsFront old.types new.types
  pub amounts : IsFront old.amounts new.amounts

-- the two types have equal shapes, and the amounts at their equal paths join those that were there
pub record FindsEqual (lists : ProgramLists) (a b : TypeId) (old new : Compared) : Type 0 where
  pub shapes : EqualShapes lists a b
  pub amounts : (q : Amount × Amount) → Contains new.amounts q ↔
      (Contains old.amounts q ⊎ StandAtEqualPaths lists a b q)

-- the answer to whether two types are equal, beside what was compared; where they differ, this stays the same
abbrev pub AnswersComparison : ProgramLists → TypeId → TypeId → Compared → Compared → Comparison → Type 0
AnswersComparison lists a b old new comparison.Equal = FindsEqual lists a b old new
AnswersComparison lists a b old new (comparison.Different path) = DifferAt lists a b path × (new ≡ old)
