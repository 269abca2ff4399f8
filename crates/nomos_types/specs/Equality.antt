-- When two types are equal: their infinite unfoldings agree at every depth.
use Rattle.std.specs.Prelude.{◌≡◌, ℕ, zero, suc, List, [], Option, Some, None}
use Rattle.nomos_ir.specs.declared.amount.Amount.{Amount}
use Rattle.nomos_ir.specs.declared.ids.Label.{Label}
use Rattle.nomos_ir.specs.declared.ids.TypeId.{TypeId}
use Rattle.nomos_ir.specs.declared.kind.Kind.{Kind}
use Rattle.nomos_ir.specs.declared.lists.ProgramLists.{ProgramLists}
use Rattle.nomos_ir.specs.declared.type_node.Branch.{Branch}
use Rattle.nomos_ir.specs.declared.type_node.TypeNode.{TypeNode}
use Rattle.nomos_ir.specs.declared.type_node.TypeNode.TheVariants as node
use Rattle.nomos_ir.specs.Unfold.{Unfolds}
use Rattle.nomos_types.specs.Amount.{Annotations, dths}
use Rattle.nomos_types.specs.Branches.{goes_by}

-- both are there and related, or neither is there
pub data BothOrNeither {X : Type 0} (R : X → X → Type 0) : Option X → Option X → Type 0 where
  both : (a b : X) → R a b → BothOrNeither R (Some a) (Some b)
  neither : BothOrNeither R None None

-- two choices have the same labels, and go on in related ways after each
abbrev pub SameBranches : (TypeId → TypeId → Type 0) → List Branch → List Branch → Type 0
SameBranches R branches others = (l : Label) → BothOrNeither R (goes_by branches l) (goes_by others l)

-- Two nodes have the same constructor, labels, kind and amount, and their parts are related.
pub data SameHead (x : Annotations) (R : TypeId → TypeId → Type 0) : TypeNode → TypeNode → Type 0 where
  one : SameHead x R node.One node.One
  plus : (branches others : List Branch) → SameBranches R branches others
      → SameHead x R (node.Plus branches) (node.Plus others)
  with : (branches others : List Branch) → SameBranches R branches others
      → SameHead x R (node.With branches) (node.With others)
  tensor : (a b c d : TypeId) → R a c → R b d → SameHead x R (node.Tensor a b) (node.Tensor c d)
  lolli : (a b c d : TypeId) → R a c → R b d → SameHead x R (node.Lolli a b) (node.Lolli c d)
  value_out : (kind : Kind) (a b : TypeId) → R a b → SameHead x R (node.ValueOut kind a) (node.ValueOut kind b)
  value_in : (kind : Kind) (a b : TypeId) → R a b → SameHead x R (node.ValueIn kind a) (node.ValueIn kind b)
  pot_out : (q r : Amount) (a b : TypeId) → dths x q ≡ dths x r → R a b
      → SameHead x R (node.PotOut q a) (node.PotOut r b)
  pot_in : (q r : Amount) (a b : TypeId) → dths x q ≡ dths x r → R a b → SameHead x R (node.PotIn q a) (node.PotIn r b)
  up : (a b : TypeId) → R a b → SameHead x R (node.Up a) (node.Up b)
  down : (a b : TypeId) → R a b → SameHead x R (node.Down a) (node.Down b)

-- the two types unfold to nodes of the same head, with related parts
pub record SameUnfolding (lists : ProgramLists) (x : Annotations) (R : TypeId → TypeId → Type 0) (a b : TypeId)
    : Type 0 where
  pub left : TypeNode
  pub right : TypeNode
  pub left_unfolds : Unfolds lists a.0 left
  pub right_unfolds : Unfolds lists b.0 right
  pub same : SameHead x R left right

-- the two types agree to a depth
abbrev pub Agree : ProgramLists → Annotations → ℕ → TypeId → TypeId → Type 0
Agree lists x zero a b = Unit {0}
Agree lists x (suc n) a b = SameUnfolding lists x (Agree lists x n) a b

-- the two types are equal under the amounts: they agree to every depth
abbrev pub EqualTypes : ProgramLists → Annotations → TypeId → TypeId → Type 0
EqualTypes lists x a b = (n : ℕ) → Agree lists x n a b

-- Amounts that are all 0. Under them equality is equality of shape, and no condition on a potential bites in what
-- follows from a start. They are over no unit.
abbrev pub no_amounts : Annotations
no_amounts = record { stars = []; unit = 0 }

-- the two types are equal where amounts are ignored
abbrev pub EqualShapes : ProgramLists → TypeId → TypeId → Type 0
EqualShapes lists a b = EqualTypes lists no_amounts a b
