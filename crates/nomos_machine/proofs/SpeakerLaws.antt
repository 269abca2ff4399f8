-- Who speaks next on a channel: so a message that waits for a process is none that the process itself has to send.
use Rattle.std.proofs.Common.{◌≡◌, ℕ, Bool, true, false, not, Option, Some, None, refl}
use Rattle.nomos_ir.specs.declared.code_node.Chan.{Chan}
use Rattle.nomos_ir.specs.declared.code_node.Chan.TheVariants as chan
use Rattle.nomos_ir.specs.declared.ids.TypeId.{TypeId}
use Rattle.nomos_ir.specs.declared.lists.ProgramLists.{ProgramLists}
use Rattle.nomos_ir.specs.declared.type_node.TypeNode.{TypeNode}
use Rattle.nomos_ir.specs.declared.type_node.TypeNode.TheVariants as node
use Rattle.nomos_types.specs.Amount.{Annotations}
use Rattle.nomos_types.specs.Premises.{by_side}
use Rattle.nomos_machine.specs.Sight.{is_own}
use Rattle.nomos_machine.specs.State.{NameTypes}
use Rattle.nomos_machine.specs.TypedMessage.{Brings, own_label, other_label, own_channel, other_channel, own_value, other_value, own_potential, other_potential, end}
use Rattle.nomos_machine.specs.declared.object.Payload.{Payload}

-- Who speaks next where a type unfolds to this node: the provider, so that what it says goes to the client, or the
-- client; and at an `up` and a `down` neither.
abbrev pub speaker : TypeNode → Option Bool
speaker node.One = Some true
speaker (node.Plus branches) = Some true
speaker (node.With branches) = Some false
speaker (node.Tensor a b) = Some true
speaker (node.Lolli a b) = Some false
speaker (node.ValueOut kind t) = Some true
speaker (node.ValueIn kind t) = Some false
speaker (node.PotOut r t) = Some true
speaker (node.PotIn r t) = Some false
speaker (node.Up t) = None
speaker (node.Down t) = None
speaker (node.Named d) = None

-- a message goes the way of who speaks next
pub brings-speaks : {lists : ProgramLists} {x : Annotations} {types : NameTypes} {way : Bool} {n : TypeNode}
    {brought : Payload} {gas : ℕ} {goes : Option TypeId} → Brings lists x types way n brought gas goes
    → speaker n ≡ Some way
brings-speaks (own_label branches l t goes) = refl
brings-speaks (other_label branches l t goes) = refl
brings-speaks (own_channel sent t name is) = refl
brings-speaks (other_channel sent t name is) = refl
brings-speaks (own_value kind t v has) = refl
brings-speaks (other_value kind t v has) = refl
brings-speaks (own_potential r t) = refl
brings-speaks (other_potential r t) = refl
brings-speaks end = refl

-- a process that sends speaks next, from its side of the channel
pub sends-speaks : (c : Chan) (own client : TypeNode) → speaker own ≡ Some true → speaker client ≡ Some false
    → speaker (by_side c own client) ≡ Some (is_own c)
sends-speaks chan.Own own client as_provider as_client = as_provider
sends-speaks (chan.Var v) own client as_provider as_client = as_client

-- only one of the two sides speaks next
pub speaks-once : (way : Bool) {says : Option Bool} → says ≡ Some way → says ≡ Some (not way) → ⊥
speaks-once true one other = differ one other
  where
    differ : {says : Option Bool} → says ≡ Some true → says ≡ Some false → ⊥
    differ one other = cc
speaks-once false one other = differ one other
  where
    differ : {says : Option Bool} → says ≡ Some false → says ≡ Some true → ⊥
    differ one other = cc
