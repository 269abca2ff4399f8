-- A mirror of the code: the search for a difference of two types.
use Rattle.std.specs.Prelude.{Bool, MatchBool, ◌≡◌, ◌<◌, ℕ, List, [], ◌∷◌, ◌++◌, Option, Some, None, slice_get}
use Rattle.nomos_ir.specs.declared.ids.Label.{Label}
use Rattle.nomos_ir.specs.declared.ids.TypeId.{TypeId}
use Rattle.nomos_ir.specs.declared.lists.ProgramLists.{ProgramLists}
use Rattle.nomos_ir.specs.declared.type_node.TypeNode.{TypeNode}
use Rattle.nomos_ir.specs.Nodes.{type_node}
use Rattle.nomos_ir.specs.Program.{IsProgram}
use Rattle.nomos_ir.specs.Unfold.{IsContractive, IsConstructor}
use Rattle.nomos_types.specs.Equality.{EqualShapes}
use Rattle.nomos_types.specs.Unfolding.{IsUnfolding}
use Rattle.nomos_equality.specs.declared.equality.Comparison.{Comparison}
use Rattle.nomos_equality.specs.declared.equality.Comparison.TheVariants as comparison
use Rattle.nomos_equality.specs.declared.hop.Hop.{Hop}
use Rattle.nomos_equality.specs.declared.hop.Hop.TheVariants as hop
use Rattle.nomos_equality.specs.declared.difference.Origin.{Origin}
use Rattle.nomos_equality.specs.declared.difference.TypeVisit.{TypeVisit}
use Rattle.nomos_equality.specs.declared.difference.DifferenceSearch.{DifferenceSearch}
use Rattle.nomos_equality.specs.Differences.{SameForm, DifferAt}
use Rattle.nomos_equality.specs.Paths.{part_by}
use Rattle.nomos_equality.specs.mirror.Linking.{Linked}

-- the program is one, and no definition is a bare name
pub record IsFormed (lists : ProgramLists) : Type 0 where
  pub program : IsProgram lists
  pub contractive : IsContractive lists

-- ---- two types, and what follows from them

-- the two types, behind their names, are related
pub record IsMet (lists : ProgramLists) (R : TypeId → TypeId → Type 0) (a b : TypeId) : Type 0 where
  pub left : TypeId
  pub right : TypeId
  pub left_is : IsUnfolding lists a.0 left.0
  pub right_is : IsUnfolding lists b.0 right.0
  pub among : R left right

-- the nodes at a visit
pub record IsAt (lists : ProgramLists) (visit : TypeVisit) (left right : TypeNode) : Type 0 where
  pub left_there : type_node lists visit.left.0 ≡ Some left
  pub right_there : type_node lists visit.right.0 ≡ Some right

-- the nodes at a visit are there, and are no names
pub record HasNodes (lists : ProgramLists) (visit : TypeVisit) : Type 0 where
  pub left : TypeNode
  pub right : TypeNode
  pub at : IsAt lists visit left right
  pub left_constructs : IsConstructor left
  pub right_constructs : IsConstructor right

-- the parts of the nodes at a visit by a hop are met
abbrev pub Follows : ProgramLists → TypeVisit → Hop → (TypeId → TypeId → Type 0) → Type 0
Follows lists visit h R =
    (left right : TypeNode) (a b : TypeId) → IsAt lists visit left right → part_by left h ≡ Some a →
    part_by right h ≡ Some b → IsMet lists R a b

-- the parts of the nodes at a visit by each label are met
abbrev pub FollowsLabels : ProgramLists → TypeVisit → (TypeId → TypeId → Type 0) → Type 0
FollowsLabels lists visit R = (l : Label) → Follows lists visit (hop.Label l) R

-- the nodes at a visit have the same form
abbrev pub HasForm : ProgramLists → TypeVisit → Type 0
HasForm lists visit = (left right : TypeNode) → IsAt lists visit left right → SameForm left right

-- ---- the search

-- the types are in one class
abbrev pub Classed : DifferenceSearch → TypeId → TypeId → Type 0
Classed s a b = Linked s.classes a.0 b.0

-- the two types are met by a hop: they were in one class, or are joined and visited
pub data Meets (lists : ProgramLists) (old : DifferenceSearch) (a b : TypeId) (from : Option Origin)
    (new : DifferenceSearch) : Type 0 where
  known : IsMet lists (Classed old) a b → new.classes ≡ old.classes →
      new.visits.items ≡ old.visits.items → Meets lists old a b from new
  fresh : (left right : TypeId) → IsUnfolding lists a.0 left.0 → IsUnfolding lists b.0 right.0 →
      new.classes ≡ old.classes ++ (left, right) ∷ [] →
      new.visits.items ≡ old.visits.items ++ (record { left = left; right = right; from = from }) ∷ [] →
      Meets lists old a b from new

-- by a hop from a visit two types are met
pub record GoesOn (lists : ProgramLists) (visits : List TypeVisit) (o : Origin) (a b : TypeId) : Type 0 where
  pub visit : TypeVisit
  pub there : slice_get visits o.visit ≡ Some visit
  pub left : TypeNode
  pub right : TypeNode
  pub at : IsAt lists visit left right
  pub left_part : part_by left o.hop ≡ Some a
  pub right_part : part_by right o.hop ≡ Some b

-- one search goes on to another, by meeting parts of what was visited
pub data GoesTo (lists : ProgramLists) (old : DifferenceSearch) : DifferenceSearch → Type 0 where
  stays : GoesTo lists old old
  meets : (mid new : DifferenceSearch) (o : Origin) (a b : TypeId) → GoesTo lists old mid →
      GoesOn lists mid.visits.items o a b → Meets lists mid a b (Some o) new → GoesTo lists old new

-- the nodes at a visit have the same form, and their parts are met
pub record IsCompared (lists : ProgramLists) (visit : TypeVisit) (R : TypeId → TypeId → Type 0) : Type 0 where
  pub form : HasForm lists visit
  pub parts : (h : Hop) → Follows lists visit h R

-- the nodes at a visit have different forms
pub record DifferHere (lists : ProgramLists) (visit : TypeVisit) : Type 0 where
  pub left : TypeNode
  pub right : TypeNode
  pub at : IsAt lists visit left right
  pub differ : ¬ (SameForm left right)

-- what a step says of a visit, by its answer
abbrev pub ComparesVisit : ProgramLists → TypeVisit → DifferenceSearch → Bool → Type 0
ComparesVisit lists visit s same = MatchBool same (IsCompared lists visit (Classed s)) (DifferHere lists visit)

-- the hops by which a visit was reached from the beginning
pub data Trail (visits : List TypeVisit) : ℕ → List Hop → Type 0 where
  begins : (i : ℕ) (v : TypeVisit) → slice_get visits i ≡ Some v → v.from ≡ None → Trail visits i []
  onward : (i : ℕ) (v : TypeVisit) (o : Origin) (path : List Hop) → slice_get visits i ≡ Some v → v.from ≡ Some o →
      Trail visits o.visit path → Trail visits i (path ++ o.hop ∷ [])

-- each visit was met from an earlier one
abbrev pub AreInOrder : List TypeVisit → Type 0
AreInOrder visits = (i : ℕ) (v : TypeVisit) (o : Origin) → slice_get visits i ≡ Some v → v.from ≡ Some o → o.visit < i

-- the two types have equal shapes, or differ at the end of the path
abbrev pub DecidesShapes : ProgramLists → TypeId → TypeId → Comparison → Type 0
DecidesShapes lists a b comparison.Equal = EqualShapes lists a b
DecidesShapes lists a b (comparison.Different path) = DifferAt lists a b path
