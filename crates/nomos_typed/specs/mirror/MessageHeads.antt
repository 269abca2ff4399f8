-- A mirror of the code: what the node of a type asks of a message, by its payload and its direction.
use Rattle.std.specs.Prelude.{◌≡◌, ℕ, Bool, false, if◌then◌else◌, IsTrue, Option, Some, None, IsSome}
use Rattle.nomos_ir.specs.Value.{Value}
use Rattle.nomos_ir.specs.ValueKind.{ValueHasKind}
use Rattle.nomos_ir.specs.declared.amount.Amount.{Amount}
use Rattle.nomos_ir.specs.declared.ids.Label.{Label}
use Rattle.nomos_ir.specs.declared.ids.TypeId.{TypeId}
use Rattle.nomos_ir.specs.declared.kind.Kind.{Kind}
use Rattle.nomos_ir.specs.declared.type_node.TypeNode.{TypeNode}
use Rattle.nomos_ir.specs.declared.type_node.TypeNode.TheVariants as node
use Rattle.nomos_types.specs.Amount.{dths}
use Rattle.nomos_types.specs.Branches.{goes_by}
use Rattle.nomos_equality.specs.Paths.{part_by}
use Rattle.nomos_equality.specs.declared.hop.Hop.TheVariants as hop
use Rattle.nomos_machine.specs.declared.object.Payload.{Payload}
use Rattle.nomos_machine.specs.declared.object.Payload.TheVariants as payload
use Rattle.nomos_typed.specs.declared.told.Told.{Told}
use Rattle.nomos_typed.specs.mirror.ComparedWith.{NameFits, amounts_in}

-- the label may be chosen in this direction
abbrev pub LabelFits : Bool → TypeNode → Label → Type 0
LabelFits to_client (node.Plus branches) l = IsTrue to_client × IsSome (goes_by branches l)
LabelFits to_client (node.With branches) l = (to_client ≡ false) × IsSome (goes_by branches l)
LabelFits to_client _ l = ⊥

-- the type of the channel that is sent
abbrev pub sent_by : Bool → TypeNode → Option TypeId
sent_by to_client (node.Tensor sent t) = if to_client then Some sent else None
sent_by to_client (node.Lolli sent t) = if to_client then None else Some sent
sent_by to_client _ = None

-- the kind of the value that is sent
abbrev pub kind_by : Bool → TypeNode → Option Kind
kind_by to_client (node.ValueOut kind t) = if to_client then Some kind else None
kind_by to_client (node.ValueIn kind t) = if to_client then None else Some kind
kind_by to_client _ = None

-- the amount that is paid
abbrev pub due_by : Bool → TypeNode → Option Amount
due_by to_client (node.PotOut r t) = if to_client then Some r else None
due_by to_client (node.PotIn r t) = if to_client then None else Some r
due_by to_client _ = None

-- the talk ends
abbrev pub IsEnd : Bool → TypeNode → Type 0
IsEnd to_client node.One = IsTrue to_client
IsEnd to_client _ = ⊥

-- the type with which it goes on
abbrev pub goes_of : TypeNode → Payload → Option TypeId
goes_of head (payload.Label l) = part_by head (hop.Label l)
goes_of head _ = part_by head hop.Next

-- ---- where something is asked for, it is that

abbrev pub SentFits : Told → Option TypeId → ℕ → Type 0
SentFits told (Some sent) name = NameFits told name sent
SentFits told None name = ⊥

abbrev pub KindFits : Option Kind → Value → Type 0
KindFits (Some kind) v = ValueHasKind v kind
KindFits None v = ⊥

abbrev pub AmountFits : Told → Option Amount → ℕ → Type 0
AmountFits told (Some r) purse = purse ≡ dths (amounts_in told) r
AmountFits told None purse = ⊥

-- What the message brings, with its gas, is asked for.
abbrev pub PayloadFits : Told → Bool → TypeNode → Payload → ℕ → Type 0
PayloadFits told to_client head (payload.Label l) purse = (purse ≡ 0) × LabelFits to_client head l
PayloadFits told to_client head (payload.Channel name) purse =
    (purse ≡ 0) × SentFits told (sent_by to_client head) name
PayloadFits told to_client head (payload.Value v) purse =
    (purse ≡ 0) × KindFits (kind_by to_client head) v
PayloadFits told to_client head payload.Pay purse = AmountFits told (due_by to_client head) purse
PayloadFits told to_client head payload.Close purse = (purse ≡ 0) × IsEnd to_client head
