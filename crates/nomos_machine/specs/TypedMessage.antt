-- Typed messages: what a message brings is what the type of its name asks for.
use Rattle.std.specs.Prelude.{◌≡◌, ℕ, Bool, true, false, List, Option, Some, None}
use Rattle.nomos_ir.specs.Unfold.{Unfolds}
use Rattle.nomos_ir.specs.Value.{Value}
use Rattle.nomos_ir.specs.ValueKind.{ValueHasKind}
use Rattle.nomos_ir.specs.declared.amount.Amount.{Amount}
use Rattle.nomos_ir.specs.declared.ids.Label.{Label}
use Rattle.nomos_ir.specs.declared.ids.TypeId.{TypeId}
use Rattle.nomos_ir.specs.declared.kind.Kind.{Kind}
use Rattle.nomos_ir.specs.declared.lists.ProgramLists.{ProgramLists}
use Rattle.nomos_ir.specs.declared.type_node.Branch.{Branch}
use Rattle.nomos_ir.specs.declared.type_node.TypeNode.{TypeNode}
use Rattle.nomos_ir.specs.declared.type_node.TypeNode.TheVariants as node
use Rattle.nomos_types.specs.Acceptance.{Acceptance}
use Rattle.nomos_types.specs.Amount.{Annotations, dths}
use Rattle.nomos_types.specs.Branches.{goes_by}
use Rattle.nomos_machine.specs.Matching.{NameHasType}
use Rattle.nomos_machine.specs.State.{NameTypes, type_of}
use Rattle.nomos_machine.specs.declared.object.Message.{Message}
use Rattle.nomos_machine.specs.declared.object.Payload.{Payload}
use Rattle.nomos_machine.specs.declared.object.Payload.TheVariants as payload

-- What a message may bring on a channel whose type unfolds to this node. It is said whether it goes to the client, what
-- it brings, with how much gas, and the type with which the talk goes on, if it does.
pub data Brings (lists : ProgramLists) (x : Annotations) (types : NameTypes)
    : Bool → TypeNode → Payload → ℕ → Option TypeId → Type 0 where
  own_label : (branches : List Branch) (l : Label) (t : TypeId) → goes_by branches l ≡ Some t
      → Brings lists x types true (node.Plus branches) (payload.Label l) 0 (Some t)
  other_label : (branches : List Branch) (l : Label) (t : TypeId) → goes_by branches l ≡ Some t
      → Brings lists x types false (node.With branches) (payload.Label l) 0 (Some t)
  own_channel : (sent t : TypeId) (name : ℕ) → NameHasType lists x types name sent
      → Brings lists x types true (node.Tensor sent t) (payload.Channel name) 0 (Some t)
  other_channel : (sent t : TypeId) (name : ℕ) → NameHasType lists x types name sent
      → Brings lists x types false (node.Lolli sent t) (payload.Channel name) 0 (Some t)
  own_value : (kind : Kind) (t : TypeId) (v : Value) → ValueHasKind v kind
      → Brings lists x types true (node.ValueOut kind t) (payload.Value v) 0 (Some t)
  other_value : (kind : Kind) (t : TypeId) (v : Value) → ValueHasKind v kind
      → Brings lists x types false (node.ValueIn kind t) (payload.Value v) 0 (Some t)
  own_potential : (r : Amount) (t : TypeId)
      → Brings lists x types true (node.PotOut r t) payload.Pay (dths x r) (Some t)
  other_potential : (r : Amount) (t : TypeId)
      → Brings lists x types false (node.PotIn r t) payload.Pay (dths x r) (Some t)
  end : Brings lists x types true node.One payload.Close 0 None

-- the next name has a type that is alike to this one, or there is neither
abbrev pub GoesOnAt : ProgramLists → Annotations → NameTypes → Option ℕ → Option TypeId → Type 0
GoesOnAt lists x types (Some name) (Some t) = NameHasType lists x types name t
GoesOnAt lists x types None None = Unit {0}
GoesOnAt lists x types _ _ = ⊥

-- A message is typed: it brings what the type of the name on which it is read asks for in its direction, and goes on as
-- that does.
pub record MessageTyped (a : Acceptance) (types : NameTypes) (m : Message) : Type 0 where
  pub own : TypeId
  pub found : type_of types m.from ≡ Some own
  pub head : TypeNode
  pub unfolds : Unfolds a.program own.0 head
  pub goes : Option TypeId
  pub brings : Brings a.program a.annotations types m.to_client head m.payload m.purse goes
  pub next : GoesOnAt a.program a.annotations types m.next goes
