-- What an outside party may say on its channel, and what becomes of it.
use Rattle.std.specs.Prelude.{◌≡◌, ℕ, false, List, map, Some}
use Rattle.nomos_ir.specs.Unfold.{Unfolds}
use Rattle.nomos_ir.specs.Value.{Value}
use Rattle.nomos_ir.specs.ValueKind.{ValueHasKind}
use Rattle.nomos_ir.specs.declared.amount.Amount.{Amount}
use Rattle.nomos_ir.specs.declared.ids.Label.{Label}
use Rattle.nomos_ir.specs.declared.ids.TypeId.{TypeId}
use Rattle.nomos_ir.specs.declared.kind.Kind.{Kind}
use Rattle.nomos_ir.specs.declared.type_node.Branch.{Branch}
use Rattle.nomos_ir.specs.declared.type_node.TypeNode.{TypeNode}
use Rattle.nomos_ir.specs.declared.type_node.TypeNode.TheVariants as node
use Rattle.nomos_types.specs.Acceptance.{Acceptance}
use Rattle.nomos_types.specs.Amount.{dths}
use Rattle.nomos_types.specs.Branches.{goes_by}
use Rattle.nomos_machine.specs.Change.{Change, CanGive, changed, no_change}
use Rattle.nomos_machine.specs.Opening.{outside_name}
use Rattle.nomos_machine.specs.Revised.{renamed}
use Rattle.nomos_machine.specs.State.{State, NameTypes, type_of}
use Rattle.nomos_machine.specs.declared.object.Object.TheVariants as object
use Rattle.nomos_machine.specs.declared.object.Payload.{Payload}
use Rattle.nomos_machine.specs.declared.object.Payload.TheVariants as payload
use Rattle.nomos_machine.specs.declared.object.Said.{Said}
use Rattle.nomos_machine.specs.declared.object.Said.TheVariants as said

-- ---- what may be said

-- What a type that unfolds to this node awaits from the client: this, with so much gas, in Dths; and the type at which
-- the talk then goes on.
pub data Awaits (a : Acceptance) : TypeNode → Said → ℕ → TypeId → Type 0 where
  label : (branches : List Branch) (l : Label) (t : TypeId) → goes_by branches l ≡ Some t
      → Awaits a (node.With branches) (said.Label l) 0 t
  value : (kind : Kind) (t : TypeId) (v : Value) → ValueHasKind v kind
      → Awaits a (node.ValueIn kind t) (said.Value v) 0 t
  pay : (r : Amount) (t : TypeId) → Awaits a (node.PotIn r t) said.Pay (dths a.annotations r) t

-- the type of a name awaits this
pub record AwaitsOn (a : Acceptance) (types : NameTypes) (name : ℕ) (what : Said) (gas : ℕ) (goes : TypeId) : Type 0
  where
    pub own : TypeId
    pub found : type_of types name ≡ Some own
    pub head : TypeNode
    pub unfolds : Unfolds a.program own.0 head
    pub awaits : Awaits a head what gas goes

-- There is an outside name, and its type awaits this.
pub record MaySay (a : Acceptance) (s : State) (what : Said) (gas : ℕ) (goes : TypeId) : Type 0 where
  pub name : ℕ
  pub outside : outside_name s ≡ Some name
  pub on : AwaitsOn a s.types name what gas goes

-- it may be said, with so much gas
abbrev pub MaySayWith : Acceptance → State → Said → ℕ → Type 0
MaySayWith a s what gas = (goes : TypeId) × MaySay a s what gas goes

-- it may be said with no amount of gas
abbrev pub MayNotSay : Acceptance → State → Said → Type 0
MayNotSay a s what = (gas : ℕ) → ¬ (MaySayWith a s what gas)

-- It may be said, and the account has what goes with it.
pub record CanSay (a : Acceptance) (s : State) (account : ℕ) (what : Said) : Type 0 where
  pub gas : ℕ
  pub may : MaySayWith a s what gas
  pub has : CanGive (Some (account, gas)) s.balances

-- ---- what becomes of it

-- what the message brings
abbrev pub brought : Said → Payload
brought (said.Label l) = payload.Label l
brought (said.Value v) = payload.Value v
brought said.Pay = payload.Pay

-- A message goes to the provider of a name, and the talk goes on under the next name, which has this type. The account,
-- which has so much, pays what the message carries.
abbrev pub says : State → ℕ → Payload → TypeId → ℕ → ℕ → Change
says s name brings goes account gas = record (no_change s) {
  comes = Some (object.Message (record {
    number = s.next_object;
    to_client = false;
    from = name;
    next = Some s.next_name;
    payload = brings;
    purse = gas;
  }));
  next_type = Some goes;
  outside = map (renamed name s.next_name) s.outside;
  gives = Some (account, gas);
}

-- It is said, and an account, which has what goes with it, pays that: a message goes to the provider of the outside
-- name, and the next name is the outside one then.
pub record Says (a : Acceptance) (s : State) (account : ℕ) (what : Said) (t : State) : Type 0 where
  pub gas : ℕ
  pub goes : TypeId
  pub may : MaySay a s what gas goes
  pub has : CanGive (Some (account, gas)) s.balances
  pub after : t ≡ changed s (says s may.name (brought what) goes account gas)
