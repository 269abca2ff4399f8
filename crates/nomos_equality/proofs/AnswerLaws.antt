-- Laws of the answer to whether two types are equal.
use Rattle.std.proofs.Common.{◌≡◌, ◌↔◌, List, Contains}
use Rattle.std.proofs.lemmas.List.Elements.{All-contains, All-weaker, All-contains_itself}
use Rattle.nomos_ir.specs.declared.amount.Amount.{Amount}
use Rattle.nomos_ir.specs.declared.ids.TypeId.{TypeId}
use Rattle.nomos_ir.specs.declared.lists.ProgramLists.{ProgramLists}
use Rattle.nomos_types.specs.Amount.{Annotations, dths}
use Rattle.nomos_types.specs.Equality.{EqualTypes, EqualShapes}
use Rattle.nomos_types.proofs.EqualityLaws.{equal-shapes}
use Rattle.nomos_equality.specs.declared.equality.Equality.{Equality}
use Rattle.nomos_equality.specs.declared.equality.Equality.TheVariants as equality
use Rattle.nomos_equality.specs.declared.hop.Hop.{Hop}
use Rattle.nomos_equality.specs.Answer.{EqualWith, AnswersEquality, SameWorth, SaysEqual}
use Rattle.nomos_equality.specs.Differences.{DifferAt}
use Rattle.nomos_equality.proofs.PathLaws.{differ-unequal, equal-worth, equal-from_worth}

-- types that differ at the end of a path do not have equal shapes
pub differ-not_equal : (lists : ProgramLists) (a b : TypeId) (path : List Hop) → DifferAt lists a b path
    → EqualShapes lists a b → ⊥
differ-not_equal lists a b path differ shapes = differ-unequal lists a b path differ shapes

-- the pairs say under which amounts the types are equal
pub equal_with-exact : (lists : ProgramLists) (a b : TypeId) (pairs : List (Amount × Amount)) (x : Annotations)
    → EqualWith lists a b pairs → EqualTypes lists x a b ↔ SameWorth x pairs
equal_with-exact lists a b pairs x answer = (
  λ equal.
      All-weaker (Contains pairs) (λ (p : Amount × Amount). dths x p.0 ≡ dths x p.1)
      (λ p among. equal-worth lists x a b p equal ((answer.pairs p).0 among)) pairs (All-contains_itself pairs),
  λ worth.
      equal-from_worth lists x a b answer.shapes
      (λ p stand. All-contains (λ (q : Amount × Amount). dths x q.0 ≡ dths x q.1) pairs p worth
      ((answer.pairs p).1 stand)),
)

-- the answer says under which amounts the types are equal
pub answer-exact : (lists : ProgramLists) (a b : TypeId) (answer : Equality) (x : Annotations)
    → AnswersEquality lists a b answer → EqualTypes lists x a b ↔ SaysEqual x answer
answer-exact lists a b (equality.Yes pairs) x answers = equal_with-exact lists a b pairs x answers
answer-exact lists a b (equality.No path) x answers =
    (λ equal. differ-unequal lists a b path answers (equal-shapes lists x a b equal), λ says. absurd says)
