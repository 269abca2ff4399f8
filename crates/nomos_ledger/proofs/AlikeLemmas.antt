-- A type and what it unfolds to are equal, and what equals a type of mode S has mode S.
use Rattle.std.proofs.Common.{◌↔◌, ◌≡◌, ◌<◌, inl, inr, length, subst, refl}
use Rattle.nomos_ir.specs.Unfold.{IsConstructor, Unfolds, constructor}
use Rattle.nomos_ir.specs.declared.ids.TypeId.{TypeId}
use Rattle.nomos_ir.specs.declared.lists.ProgramLists.{ProgramLists}
use Rattle.nomos_ir.specs.declared.mode.Mode.{Mode}
use Rattle.nomos_ir.specs.declared.mode.Mode.TheVariants as mode
use Rattle.nomos_ir.specs.declared.type_node.TypeNode.{TypeNode}
use Rattle.nomos_ir.specs.declared.type_node.TypeNode.TheVariants as node
use Rattle.nomos_ir.proofs.UnfoldLaws.{Unfolds-unique}
use Rattle.nomos_types.specs.Alike.{AlikeTypes}
use Rattle.nomos_types.specs.Amount.{Annotations}
use Rattle.nomos_types.specs.Equality.{EqualTypes, SameHead}
use Rattle.nomos_types.specs.Equality as head
use Rattle.nomos_types.specs.Modes.{HasMode, Allows, IsLinearMode}
use Rattle.nomos_types.specs.Typed.{IsWellFormed}
use Rattle.nomos_types.specs.Unfolding.{IsUnfolding}
use Rattle.nomos_types.proofs.EqualityLaws.{equal-same, equal-back, equal-through, equal-unfolded, equal-from_unfolded}
use Rattle.nomos_types.proofs.ModeLaws.{mode-in_range, unfolding-keeps_mode}

-- a constructor that is allowed at mode S is an `up`
not_linear : IsLinearMode mode.S → ⊥
not_linear (inl is) = cc
not_linear (inr is) = cc

shared-up : (lists : ProgramLists) (n : TypeNode) → Allows lists mode.S n → IsConstructor n
    → (a : TypeId) × (n ≡ node.Up a)
shared-up lists node.One (inl is) no_name = absurd cc
shared-up lists node.One (inr is) no_name = absurd cc
shared-up lists (node.Up a) allowed no_name = (a, refl)
shared-up lists (node.Down a) allowed no_name = absurd cc
shared-up lists (node.Named d) allowed no_name = absurd no_name
shared-up lists (node.Plus bs) allowed no_name = absurd (not_linear allowed)
shared-up lists (node.With bs) allowed no_name = absurd (not_linear allowed)
shared-up lists (node.Tensor a b) allowed no_name = absurd (not_linear allowed)
shared-up lists (node.Lolli a b) allowed no_name = absurd (not_linear allowed)
shared-up lists (node.ValueOut kind a) allowed no_name = absurd (not_linear allowed)
shared-up lists (node.ValueIn kind a) allowed no_name = absurd (not_linear allowed)
shared-up lists (node.PotOut amount a) allowed no_name = absurd (not_linear allowed)
shared-up lists (node.PotIn amount a) allowed no_name = absurd (not_linear allowed)

-- what has the same head as an `up` is one
same-up : {x : Annotations} {R : TypeId → TypeId → Type 0} {p q : TypeNode} → SameHead x R p q → (a : TypeId)
    → p ≡ node.Up a → (b : TypeId) × (q ≡ node.Up b)
same-up head.one a is = absurd cc
same-up (head.plus branches others same) a is = absurd cc
same-up (head.with branches others same) a is = absurd cc
same-up (head.tensor b c d e first second) a is = absurd cc
same-up (head.lolli b c d e first second) a is = absurd cc
same-up (head.value_out kind b c next) a is = absurd cc
same-up (head.value_in kind b c next) a is = absurd cc
same-up (head.pot_out q r b c worth next) a is = absurd cc
same-up (head.pot_in q r b c worth next) a is = absurd cc
same-up (head.up b c next) a is = (c, refl)
same-up (head.down b c next) a is = absurd cc

module _ {lists : ProgramLists} (formed : IsWellFormed lists) (x : Annotations) where
  -- a type and what it unfolds to are equal
  unfolding-equal : (t u : TypeId) → t.0 < length lists.types → IsUnfolding lists t.0 u.0 → EqualTypes lists x t u
  unfolding-equal t u inside leads =
      let n = leads.node in
      let (q, unfolds, same) =
      equal-unfolded lists x t t n (equal-same lists x t formed.program formed.contractive inside) leads.unfolds in
      let is : q ≡ n = Unfolds-unique lists t.0 q n unfolds leads.unfolds in
      let itself : SameHead x (EqualTypes lists x) n n =
      subst (λ (m : TypeNode). SameHead x (EqualTypes lists x) n m) is same in
      equal-from_unfolded lists x t u n n leads.unfolds (constructor u.0 n leads.there leads.no_name)
      itself

  -- what equals a type of mode S has mode S
  shared-equal : (a b : TypeId) (m : Mode) → HasMode lists a mode.S → HasMode lists b m → EqualTypes lists x a b
      → (n : TypeNode) → Unfolds lists a.0 n → IsConstructor n → m ≡ mode.S
  shared-equal a b m shared has equal n unfolds no_name =
      let (u, there, at_s) = unfolding-keeps_mode formed.program formed.contractive formed.modes shared unfolds in
      let up = shared-up lists n (formed.modes.allowed u mode.S n at_s there) no_name in
      let (q, unfolds_too, same) = equal-unfolded lists x a b n equal unfolds in
      let other = same-up same up.0 up.1 in
      let (v, there_too, at_m) = unfolding-keeps_mode formed.program formed.contractive formed.modes has unfolds_too in
      let allowed = formed.modes.allowed v m q at_m there_too in
      subst (λ (k : TypeNode). Allows lists m k) other.1 allowed

  module _ (own wanted left right : TypeId) (m : Mode) (shared : HasMode lists own mode.S)
      (has : HasMode lists wanted m)
      (first : IsUnfolding lists own.0 left.0) (second : IsUnfolding lists wanted.0 right.0) where
    -- where what they unfold to is equal, they are alike
    alike-from_unfolded : EqualTypes lists x left right → AlikeTypes lists x own wanted
    alike-from_unfolded same =
        let to_left = unfolding-equal own left (mode-in_range formed.program shared) first in
        let to_right = unfolding-equal wanted right (mode-in_range formed.program has) second in
        let equal = equal-through lists x own left wanted to_left
        (equal-through lists x left right wanted same (equal-back lists x wanted right to_right)) in
        let at_s : m ≡ mode.S = shared-equal own wanted m shared has equal first.node first.unfolds first.no_name in
        record {
          equal = equal;
          mode = mode.S;
          left_mode = shared;
          right_mode = subst (λ (k : Mode). HasMode lists wanted k) at_s has;
        }

    alike-unfolded : AlikeTypes lists x own wanted → EqualTypes lists x left right
    alike-unfolded alike =
        let to_left = unfolding-equal own left (mode-in_range formed.program shared) first in
        let to_right = unfolding-equal wanted right (mode-in_range formed.program has) second in
        equal-through lists x left own right (equal-back lists x own left to_left)
        (equal-through lists x own wanted right alike.equal to_right)

    -- so a type of mode S and another one are alike exactly where what they unfold to is equal
    pub alike-exact : EqualTypes lists x left right ↔ AlikeTypes lists x own wanted
    alike-exact = (alike-from_unfolded, alike-unfolded)
