-- What was found of the premises of an instruction, from what was found of its channel.
use Rattle.std.proofs.Common.{◌≡◌, ◌<◌, ◌⊎◌, ◌∙◌, IsTrue, Contains, length, arith, List, Option, Some, None, refl, subst}
use Rattle.nomos_ir.specs.declared.code_node.Chan.{Chan}
use Rattle.nomos_ir.specs.declared.ids.Label.{Label}
use Rattle.nomos_ir.specs.declared.ids.TypeId.{TypeId}
use Rattle.nomos_ir.specs.declared.ids.TermId.{TermId}
use Rattle.nomos_ir.specs.declared.ids.VarId.{VarId}
use Rattle.nomos_ir.specs.declared.kind.Kind.{Kind}
use Rattle.nomos_ir.specs.TermKind.{HasKind}
use Rattle.nomos_ir.specs.declared.lists.ProgramLists.{ProgramLists}
use Rattle.nomos_ir.specs.declared.type_node.Branch.{Branch}
use Rattle.nomos_ir.specs.declared.type_node.TypeNode.TheVariants as node
use Rattle.nomos_ir.specs.declared.code_node.Chan.TheVariants as chan
use Rattle.nomos_ir.specs.declared.mode.Mode.TheVariants as mode
use Rattle.nomos_ir.specs.Bindings.{bound_to}
use Rattle.nomos_ir.specs.Nodes.{type_node}
use Rattle.nomos_ir.specs.Unfold.{Unfolds}
use Rattle.nomos_ir.proofs.UnfoldLaws.{Unfolds-unique}
use Rattle.nomos_types.proofs.UniqueRowLaws.{sent-value-same, sent-branches-same}
use Rattle.nomos_types.specs.Unfolding.{IsUnfolding}
use Rattle.nomos_ir.specs.declared.type_node.TypeNode.{TypeNode}
use Rattle.nomos_types.specs.Branches.{goes_by}
use Rattle.nomos_ir.specs.declared.mode.Mode.{Mode}
use Rattle.nomos_ir.proofs.BindingLaws.{all-bound}
use Rattle.nomos_types.proofs.ModeLaws.{mode-in_range, part-has_mode}
use Rattle.nomos_types.specs.Modes.{HasMode, carried_mode, may_hold, part_modes}
use Rattle.nomos_types.specs.Typed.{IsWellFormed}
use Rattle.nomos_types.specs.Judgement.{Judgement, IsFree, SuitsMode, channel_type}
use Rattle.nomos_types.specs.Premises.{HasType, by_side, SendsLabel, SendsValue, ReceivesValue, Acquires, Releases}
use Rattle.nomos_check.specs.mirror.FoundWrong.{IsFound}
use Rattle.nomos_check.proofs.ChannelLaws.{head-unique}

module _ (lists : ProgramLists) (j : Judgement) where
  -- the branch of a label, where the branches are known
  pub label-found : (c : Chan) (l : Label) (bs : List Branch) (o : Option TypeId)
      → HasType lists j c (by_side c (node.Plus bs) (node.With bs)) → goes_by bs l ≡ o
      → IsFound (SendsLabel lists j c l) o
  label-found c l bs (Some t) typed goes = record { branches = bs; channel = typed; goes = goes }
  label-found c l bs None typed goes =
      λ t says.
      let heads = head-unique lists j c _ _ says.channel typed in
      let same = sent-branches-same c says.branches bs heads in
      let there = subst (λ (cs : List Branch). goes_by cs l ≡ Some t) same says.goes in
      cc

  -- a value that is sent has the kind that the channel's type says
  pub value-sent : (c : Chan) (e : TermId) (p : Kind × TypeId) (t : TypeId)
      → HasType lists j c (by_side c (node.ValueOut p.0 p.1) (node.ValueIn p.0 p.1)) → SendsValue lists j c e t
      → HasKind lists j.kinds e p.0
  value-sent c e p t typed says =
      let heads = head-unique lists j c _ _ says.channel typed in
      let (same, rest) = sent-value-same c says.kind p.0 t p.1 heads in
      subst (λ (kind : Kind). HasKind lists j.kinds e kind) same says.value

  -- a value that is received under a free name
  pub value-received : (c : Chan) (v : VarId) (o : Option (Kind × TypeId)) → IsFree j v
      → IsFound (λ p. HasType lists j c (by_side c (node.ValueIn p.0 p.1) (node.ValueOut p.0 p.1))) o
      → IsFound (λ p. ReceivesValue lists j c v p.0 p.1) o
  value-received c v (Some p) free found = record { channel = found; free = free }
  value-received c v None free none = λ p says. none p says.channel

  -- a contract that is acquired
  pub acquired-found : (a v : VarId) (o : Option TypeId) → (j.mode ≡ mode.L) ⊎ (j.mode ≡ mode.T) → IsFree j v
      → IsFound (λ t. (own : TypeId) × (bound_to a.0 j.shared ≡ Some own) × Unfolds lists own.0 (node.Up t)) o
      → IsFound (Acquires lists j a v) o
  acquired-found a v (Some t) may free (own, found, unfolds) =
      record { mode = may; own = own; reference = found; unfolds = unfolds; free = free }
  acquired-found a v None may free none = λ t says. none t (says.own, says.reference, says.unfolds)

  -- a contract that is released
  pub released-found : (v a : VarId) (o : Option TypeId) → IsFree j a
      → IsFound (λ t. HasType lists j (chan.Var v) (node.Down t)) o → IsFound (Releases lists j v a) o
  released-found v a (Some t) free found = record { channel = found; free = free }
  released-found v a None free none = λ t says. none t says.channel

  -- what stands behind a reference
  pub reference-found : (a : VarId) (own u : TypeId) (n : TypeNode) (o : Option TypeId)
      → bound_to a.0 j.shared ≡ Some own
      → IsUnfolding lists own.0 u.0 → type_node lists u.0 ≡ Some n → IsFound (λ t. node.Up t ≡ n) o
      → IsFound (λ t. (s : TypeId) × (bound_to a.0 j.shared ≡ Some s) × Unfolds lists s.0 (node.Up t)) o
  reference-found a own u n (Some t) bound at there found =
      let here = at.there in
      let same : at.node ≡ node.Up t = cc in
      (own, bound, subst (λ (m : TypeNode). Unfolds lists own.0 m) same at.unfolds)
  reference-found a own u n None bound at there none =
      λ t says.
      let here = at.there in
      let other = says.1 in
      let one : says.0 ≡ own = cc in
      let unfolds = subst (λ (s : TypeId). Unfolds lists s.0 (node.Up t)) one says.2 in
      let same = Unfolds-unique lists own.0 (node.Up t) at.node unfolds at.unfolds in
      let node_is : at.node ≡ n = cc in
      none t (same ∙ node_is)

  -- the mode of a channel's type
  pub channel-mode : (c : Chan) (t : TypeId) → SuitsMode lists j → channel_type j c ≡ Some t
      → (m : Mode) × HasMode lists t m
  channel-mode chan.Own t h found =
      let same : j.offers ≡ t = cc in
      (j.mode, subst (λ (s : TypeId). HasMode lists s j.mode) same h.offers)
  channel-mode (chan.Var v) t h found =
      let P : TypeId → Type 0 = λ s. (m : Mode) × HasMode lists s m × IsTrue (may_hold j.mode m) in
      let (m, has, may) = all-bound P v.0 t j.linear h.held found in
      (m, has)

  -- a part of the node to which a channel's type unfolds has its place
  pub part-in_range : (c : Chan) (n : TypeNode) (u : TypeId) → IsWellFormed lists → SuitsMode lists j
      → HasType lists j c n → ((m : Mode) → (k : Mode) × Contains (part_modes lists m n) (u, k))
      → u.0 < length lists.types
  part-in_range c n u formed h (t, found, unfolds) among =
      let (m, has) = channel-mode c t h found in
      let (k, inside) = among m in
      mode-in_range formed.program (part-has_mode formed.program formed.contractive formed.modes has unfolds inside)

  -- a channel that is received has a type in its place
  pub carried-in_range : (c : Chan) (a t : TypeId) → IsWellFormed lists → SuitsMode lists j
      → HasType lists j c (by_side c (node.Lolli a t) (node.Tensor a t)) → a.0 < length lists.types
  carried-in_range chan.Own a t formed h typed =
      part-in_range chan.Own (node.Lolli a t) a formed h typed (λ m. (carried_mode lists m a, (0, omega arith, refl)))
  carried-in_range (chan.Var v) a t formed h typed =
      part-in_range (chan.Var v) (node.Tensor a t) a formed h typed (λ m. (
        carried_mode lists m a,
        (0, omega arith, refl),
      ))

  -- and so has one that is sent
  pub sent-in_range : (c : Chan) (a t : TypeId) → IsWellFormed lists → SuitsMode lists j
      → HasType lists j c (by_side c (node.Tensor a t) (node.Lolli a t)) → a.0 < length lists.types
  sent-in_range chan.Own a t formed h typed =
      part-in_range chan.Own (node.Tensor a t) a formed h typed (λ m. (carried_mode lists m a, (0, omega arith, refl)))
  sent-in_range (chan.Var v) a t formed h typed =
      part-in_range (chan.Var v) (node.Lolli a t) a formed h typed (λ m. (
        carried_mode lists m a,
        (0, omega arith, refl),
      ))
