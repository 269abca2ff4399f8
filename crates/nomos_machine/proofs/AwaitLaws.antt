-- What a type awaits from the client is what a message to the provider may bring there.
use Rattle.std.proofs.Common.{◌≡◌, ℕ, false, [], Some, refl, subst}
use Rattle.nomos_ir.specs.Unfold.{Unfolds}
use Rattle.nomos_ir.specs.declared.ids.TypeId.{TypeId}
use Rattle.nomos_ir.specs.declared.type_node.TypeNode.{TypeNode}
use Rattle.nomos_ir.proofs.UnfoldLaws.{Unfolds-unique}
use Rattle.nomos_types.specs.Acceptance.{Acceptance}
use Rattle.nomos_machine.specs.Objects.{carried}
use Rattle.nomos_machine.specs.Opening.{outside_name}
use Rattle.nomos_machine.specs.Saying.{Awaits, label, value, pay, MaySay, brought}
use Rattle.nomos_machine.specs.State.{State, NameTypes, type_of}
use Rattle.nomos_machine.specs.TypedMessage.{Brings, other_label, other_value, other_potential}
use Rattle.nomos_machine.specs.declared.object.Said.{Said}
use Rattle.nomos_machine.specs.declared.object.Said.TheVariants as said

module _ {a : Acceptance} (types : NameTypes) where
  pub awaits-brings : {head : TypeNode} {what : Said} {gas : ℕ} {goes : TypeId} → Awaits a head what gas goes
      → Brings a.program a.annotations types false head (brought what) gas (Some goes)
  awaits-brings (label branches l t is) = other_label branches l t is
  awaits-brings (value kind t v has) = other_value kind t v has
  awaits-brings (pay r t) = other_potential r t

  pub brings-awaits : {head : TypeNode} {gas : ℕ} {goes : TypeId} → (what : Said)
      → Brings a.program a.annotations types false head (brought what) gas (Some goes) → Awaits a head what gas goes
  brings-awaits (said.Label l) (other_label branches _ t is) = label branches l t is
  brings-awaits (said.Value v) (other_value kind t _ has) = value kind t v has
  brings-awaits said.Pay (other_potential r t) = pay r t

-- it brings no channel
pub brought-carries_none : (what : Said) → carried (brought what) ≡ []
brought-carries_none (said.Label l) = refl
brought-carries_none (said.Value v) = refl
brought-carries_none said.Pay = refl

-- the gas and the type are determined by the node
pub awaits-once : {a : Acceptance} {head : TypeNode} {what : Said} {gas other : ℕ} {goes onward : TypeId}
    → Awaits a head what gas goes → Awaits a head what other onward → (gas ≡ other) × (goes ≡ onward)
awaits-once (label branches l t is) (label _ _ u so) = let same : t ≡ u = cc in (refl, same)
awaits-once (value kind t v has) (value _ _ _ so) = (refl, refl)
awaits-once (pay r t) (pay _ _) = (refl, refl)

-- what may be said is awaited at the node to which the outside name's type unfolds
pub may_say-awaits : {a : Acceptance} {s : State} {what : Said} {gas : ℕ} {goes own : TypeId} {name : ℕ}
    → (head : TypeNode) → MaySay a s what gas goes → outside_name s ≡ Some name → type_of s.types name ≡ Some own
    → Unfolds a.program own.0 head → Awaits a head what gas goes
may_say-awaits {a} {s} {what} {gas} {goes} {own} {name} head may outside found unfolds =
    let its_name = may.outside in
    let same_name : may.name ≡ name = cc in
    let its_type = may.on.found in
    let same : may.on.own ≡ own = cc in
    let its_head = subst (λ (t : TypeId). Unfolds a.program t.0 may.on.head) same may.on.unfolds in
    let node = Unfolds-unique a.program own.0 may.on.head head its_head unfolds in
    subst (λ (n : TypeNode). Awaits a n what gas goes) node may.on.awaits

-- so both are determined by the state
pub may_say-once : {a : Acceptance} {s : State} {what : Said} {gas other : ℕ} {goes onward : TypeId}
    → MaySay a s what gas goes → MaySay a s what other onward → (gas ≡ other) × (goes ≡ onward)
may_say-once one two =
    awaits-once one.on.awaits (may_say-awaits one.on.head two one.outside one.on.found one.on.unfolds)
