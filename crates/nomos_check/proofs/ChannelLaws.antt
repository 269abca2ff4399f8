-- The nodes to which the types of channels unfold.
use Rattle.std.proofs.Common.{◌≡◌, ◌<◌, ◌↔◌, All, length, Bool, IsTrue, Option, Some, None, sym, subst}
use Rattle.nomos_ir.specs.declared.code_node.Chan.{Chan}
use Rattle.nomos_ir.specs.declared.code_node.Chan.TheVariants as chan
use Rattle.nomos_ir.specs.Bindings.{bound_to}
use Rattle.nomos_ir.specs.declared.ids.TypeId.{TypeId}
use Rattle.nomos_ir.specs.declared.ids.VarId.{VarId}
use Rattle.nomos_ir.specs.declared.lists.ProgramLists.{ProgramLists}
use Rattle.nomos_ir.specs.declared.type_node.TypeNode.{TypeNode}
use Rattle.nomos_ir.specs.Nodes.{type_node}
use Rattle.nomos_ir.specs.Program.{IsProgram}
use Rattle.nomos_ir.specs.Unfold.{Unfolds}
use Rattle.nomos_ir.proofs.BindingLaws.{all-bound}
use Rattle.nomos_ir.proofs.UnfoldLaws.{Unfolds-unique}
use Rattle.nomos_types.specs.Judgement.{Judgement, IsJudgement, SuitsMode, channel_type}
use Rattle.nomos_types.specs.Premises.{HasType}
use Rattle.nomos_types.specs.Unfolding.{IsUnfolding}
use Rattle.nomos_types.proofs.ModeLaws.{mode-in_range}
use Rattle.nomos_check.specs.mirror.FoundWrong.{IsFound}

module _ (lists : ProgramLists) (j : Judgement) where
  -- the type of a channel that is used exactly once has its place
  pub linear-has_place : (v : VarId) (t : TypeId) → IsProgram lists → IsJudgement lists j
      → bound_to v.0 j.linear ≡ Some t → t.0 < length lists.types
  linear-has_place v t is_program h found =
      let Inside : TypeId → Type 0 = λ s. s.0 < length lists.types in
      let inside : All (λ b. Inside b.1) j.linear =
      λ k d within. mode-in_range is_program (h.linear_modes k d within).1
      in
      all-bound Inside v.0 t j.linear inside found

  -- so has that of every channel, where what is offered has a mode
  pub channel-in_range : (c : Chan) (t : TypeId) → IsProgram lists → IsJudgement lists j → SuitsMode lists j
      → channel_type j c ≡ Some t → t.0 < length lists.types
  channel-in_range chan.Own t is_program h suits found =
      let same : j.offers ≡ t = cc in
      subst (λ (s : TypeId). s.0 < length lists.types) same (mode-in_range is_program suits.offers)
  channel-in_range (chan.Var v) t is_program h suits found = linear-has_place v t is_program h found

  -- the node at the unfolding of a channel's type is what the type unfolds to
  pub channel-unfolds : (c : Chan) (t : TypeId) (u : TypeId) (n : TypeNode) → channel_type j c ≡ Some t
      → IsUnfolding lists t.0 u.0 → type_node lists u.0 ≡ Some n → HasType lists j c n
  channel-unfolds c t u n found at there =
      let here = at.there in
      let same : at.node ≡ n = cc in
      (t, found, subst (λ (m : TypeNode). Unfolds lists t.0 m) same at.unfolds)

  -- a channel without a type unfolds to nothing
  pub no-channel : (c : Chan) (n : TypeNode) → channel_type j c ≡ None → ¬ (HasType lists j c n)
  no-channel c n nothing typed = let found = typed.1 in cc

  -- a channel's type unfolds to one node
  pub head-unique : (c : Chan) (m n : TypeNode) → HasType lists j c m → HasType lists j c n → m ≡ n
  head-unique c m n (t, left, left_unfolds) (u, right, right_unfolds) =
      let same : u ≡ t = cc in
      Unfolds-unique lists t.0 m n left_unfolds (subst (λ (s : TypeId). Unfolds lists s.0 n) same right_unfolds)

  -- what was found of the node was found of the channel's type
  pub form-found : {X : Type 0} (form : X → TypeNode) (c : Chan) (n : TypeNode) (o : Option X) → HasType lists j c n
      → IsFound (λ x. form x ≡ n) o → IsFound (λ x. HasType lists j c (form x)) o
  form-found form c n (Some x) typed found = subst (λ (m : TypeNode). HasType lists j c m) (sym found) typed
  form-found form c n None typed none = λ x typed_so. none x (head-unique c (form x) n typed_so typed)

  -- the same for a test of the node
  pub test-found : (form : TypeNode) (c : Chan) (n : TypeNode) (b : Bool) → HasType lists j c n
      → (IsTrue b ↔ (n ≡ form)) → IsTrue b ↔ HasType lists j c form
  test-found form c n b typed test = (
    λ yes. subst (λ (m : TypeNode). HasType lists j c m) (test.0 yes) typed,
    λ typed_so. test.1 (head-unique c n form typed typed_so),
  )

-- nothing was found where nothing has the property
pub none-found : {X : Type 0} (P : X → Type 0) (o : Option X) → o ≡ None → ((x : X) → ¬ (P x)) → IsFound P o
none-found P o nothing none = subst (IsFound P) (sym nothing) none
