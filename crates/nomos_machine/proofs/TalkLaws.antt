-- What a message brings, at types that are alike; and with which types, of which modes, a talk goes on.
use Rattle.std.proofs.Common.{◌≡◌, ℕ, map, All, Bool, true, false, not, List, Contains, Option, Some, None, refl, sym, subst, arith}
use Rattle.std.proofs.lemmas.List.Elements.{All-weaker, All-contains_itself}
use Rattle.nomos_ir.specs.Paired.{Paired, both, neither}
use Rattle.nomos_ir.specs.Unfold.{Unfolds}
use Rattle.nomos_ir.specs.Value.{Value}
use Rattle.nomos_ir.specs.ValueKind.{ValueHasKind}
use Rattle.nomos_ir.specs.declared.amount.Amount.{Amount}
use Rattle.nomos_ir.specs.declared.code_node.Chan.{Chan}
use Rattle.nomos_ir.specs.declared.code_node.Chan.TheVariants as chan
use Rattle.nomos_ir.specs.declared.ids.Label.{Label}
use Rattle.nomos_ir.specs.declared.ids.TypeId.{TypeId}
use Rattle.nomos_ir.specs.declared.kind.Kind.{Kind}
use Rattle.nomos_ir.specs.declared.lists.ProgramLists.{ProgramLists}
use Rattle.nomos_ir.specs.declared.mode.Mode.{Mode}
use Rattle.nomos_ir.specs.declared.type_node.Branch.{Branch}
use Rattle.nomos_ir.specs.declared.type_node.TypeNode.{TypeNode}
use Rattle.nomos_ir.specs.declared.type_node.TypeNode.TheVariants as node
use Rattle.nomos_types.specs.Alike.{AlikeTypes}
use Rattle.nomos_types.specs.Amount.{Annotations, dths}
use Rattle.nomos_types.specs.Branches.{goes_by}
use Rattle.nomos_types.specs.Equality.{SameHead, one, plus, with, tensor, lolli, value_out, value_in, pot_out, pot_in}
use Rattle.nomos_types.specs.Modes.{HasMode, IsLinearMode, Allows, part_modes}
use Rattle.nomos_types.specs.Premises.{by_side}
use Rattle.nomos_types.specs.Synchronizing.{continuations}
use Rattle.nomos_types.specs.Typed.{IsWellFormed}
use Rattle.nomos_types.proofs.AlikeLaws.{alike_types-through, alike_types-unfolded}
use Rattle.nomos_types.proofs.HeadsOverLaws.{both-under}
use Rattle.nomos_types.proofs.ModeLaws.{unfolding-keeps_mode, part-has_mode, branch-among}
use Rattle.nomos_types.proofs.BranchLaws.{goes-all}
use Rattle.nomos_types.proofs.OccurrenceLaws.{contains-map}
use Rattle.nomos_machine.specs.Matching.{NameHasType}
use Rattle.nomos_machine.specs.Sight.{is_own, after_label, after_channel, after_value, after_potential}
use Rattle.nomos_machine.specs.State.{NameTypes}
use Rattle.nomos_machine.specs.TypedMessage.{Brings, own_label, other_label, own_channel, other_channel, own_value, other_value, own_potential, other_potential, end}
use Rattle.nomos_machine.specs.declared.object.Payload.{Payload}
use Rattle.nomos_machine.specs.declared.object.Payload.TheVariants as payload

-- ---- at types that are alike

-- a name has each type that is alike to one that it has
pub of_type-through : {lists : ProgramLists} {x : Annotations} {types : NameTypes} {name : ℕ} {t u : TypeId}
    → IsWellFormed lists → NameHasType lists x types name t → AlikeTypes lists x t u → NameHasType lists x types name u
of_type-through formed is alike = record {
  own = is.own;
  found = is.found;
  alike = alike_types-through formed.program is.alike alike;
}

-- It is brought at this node as well, and the talk goes on at a type that is alike, if it does.
abbrev pub BringsAlike : ProgramLists → Annotations → NameTypes → Bool → TypeNode → Payload → ℕ → Option TypeId → Type 0
BringsAlike lists x types way n brought gas goes =
    (u : Option TypeId) × Brings lists x types way n brought gas u × Paired (AlikeTypes lists x) goes u

-- what is brought at one of two heads is brought at the other
pub brings-alike : {lists : ProgramLists} {x : Annotations} {types : NameTypes} {way : Bool} {n k : TypeNode}
    {brought : Payload} {gas : ℕ} {goes : Option TypeId} → IsWellFormed lists
    → Brings lists x types way n brought gas goes → SameHead x (AlikeTypes lists x) n k
    → BringsAlike lists x types way k brought gas goes
brings-alike formed (own_label bs l t goes) (plus _ cs same) =
    let (u, found, alike) = both-under t (same l) goes in
    (Some u, own_label cs l u found, both alike)
brings-alike formed (other_label bs l t goes) (with _ cs same) =
    let (u, found, alike) = both-under t (same l) goes in
    (Some u, other_label cs l u found, both alike)
brings-alike formed (own_channel sent t name is) (tensor _ _ c d first rest) =
    (Some d, own_channel c d name (of_type-through formed is first), both rest)
brings-alike formed (other_channel sent t name is) (lolli _ _ c d first rest) =
    (Some d, other_channel c d name (of_type-through formed is first), both rest)
brings-alike formed (own_value kind t v has) (value_out _ _ d rest) = (Some d, own_value kind d v has, both rest)
brings-alike formed (other_value kind t v has) (value_in _ _ d rest) = (Some d, other_value kind d v has, both rest)
brings-alike {lists} {x} {types} formed (own_potential r t) (pot_out _ q _ d same rest) = (
  Some d,
  subst (λ (gas : ℕ). Brings lists x types true (node.PotOut q d) payload.Pay gas (Some d)) (sym same)
      (own_potential q d),
  both rest,
)
brings-alike {lists} {x} {types} formed (other_potential r t) (pot_in _ q _ d same rest) = (
  Some d,
  subst (λ (gas : ℕ). Brings lists x types false (node.PotIn q d) payload.Pay gas (Some d)) (sym same)
      (other_potential q d),
  both rest,
)
brings-alike formed end one = (None, end, neither)

-- What is brought where one of two types that are alike unfolds to a node is brought where the other does: so a talk
-- goes on alike at the type of its name and at the type that a judgement has for it.
pub goes-alike : {lists : ProgramLists} {x : Annotations} {types : NameTypes} {way : Bool} {t u : TypeId}
    {n k : TypeNode}
    {brought : Payload} {gas : ℕ} {goes : Option TypeId} → IsWellFormed lists → AlikeTypes lists x t u
    → Unfolds lists t.0 n → Unfolds lists u.0 k → Brings lists x types way n brought gas goes
    → BringsAlike lists x types way k brought gas goes
goes-alike formed alike left right brings =
    brings-alike formed brings (alike_types-unfolded formed.program formed.contractive formed.modes alike left right)

-- ---- with what a talk goes on

-- what the machine looks up at a node after what is brought
abbrev pub after_brought : Payload → TypeNode → Option TypeId
after_brought (payload.Label l) n = after_label l n
after_brought (payload.Channel name) n = after_channel n
after_brought (payload.Value v) n = after_value n
after_brought payload.Pay n = after_potential n
after_brought payload.Close n = None

-- a choice goes on after a label as one of its branches does
continues-by_label : (bs : List Branch) (l : Label) (u : TypeId) → goes_by bs l ≡ Some u
    → Contains (map (λ b. b.goes) bs) u
continues-by_label bs l u goes =
    let Among : TypeId → Type 0 = λ t. Contains (map (λ (b : Branch). b.goes) bs) t in
    let each : All (λ b. Among b.goes) bs =
    All-weaker (Contains bs) (λ b. Among b.goes)
    (λ b among. contains-map (λ (c : Branch). c.goes) bs b b.goes among refl) bs (All-contains_itself bs)
    in
    goes-all Among bs l u each goes

module _ {lists : ProgramLists} {x : Annotations} {types : NameTypes} where
  -- it is the type with which the talk goes on
  pub brings-after : {way : Bool} {n : TypeNode} {brought : Payload} {gas : ℕ} {goes : Option TypeId}
      → Brings lists x types way n brought gas goes → after_brought brought n ≡ goes
  brings-after (own_label bs l t goes) = goes
  brings-after (other_label bs l t goes) = goes
  brings-after (own_channel sent t name is) = refl
  brings-after (other_channel sent t name is) = refl
  brings-after (own_value kind t v has) = refl
  brings-after (other_value kind t v has) = refl
  brings-after (own_potential r t) = refl
  brings-after (other_potential r t) = refl
  brings-after end = refl

  -- it goes on with a continuation of the node
  pub brings-continues : {way : Bool} {n : TypeNode} {brought : Payload} {gas : ℕ} {t : TypeId}
      → Brings lists x types way n brought gas (Some t) → Contains (continuations n) t
  brings-continues (own_label bs l t goes) = continues-by_label bs l t goes
  brings-continues (other_label bs l t goes) = continues-by_label bs l t goes
  brings-continues (own_channel sent t name is) = (0, omega arith, refl)
  brings-continues (other_channel sent t name is) = (0, omega arith, refl)
  brings-continues (own_value kind t v has) = (0, omega arith, refl)
  brings-continues (other_value kind t v has) = (0, omega arith, refl)
  brings-continues (own_potential r t) = (0, omega arith, refl)
  brings-continues (other_potential r t) = (0, omega arith, refl)

  -- which has the mode of the node
  brings-part : {way : Bool} {n : TypeNode} {brought : Payload} {gas : ℕ} {t : TypeId} → (m : Mode)
      → Brings lists x types way n brought gas (Some t) → Contains (part_modes lists m n) (t, m)
  brings-part m (own_label bs l t goes) = branch-among m bs l t goes
  brings-part m (other_label bs l t goes) = branch-among m bs l t goes
  brings-part m (own_channel sent t name is) = (1, omega arith, refl)
  brings-part m (other_channel sent t name is) = (1, omega arith, refl)
  brings-part m (own_value kind t v has) = (0, omega arith, refl)
  brings-part m (other_value kind t v has) = (0, omega arith, refl)
  brings-part m (own_potential r t) = (0, omega arith, refl)
  brings-part m (other_potential r t) = (0, omega arith, refl)

  -- and that is a mode of channels that are used exactly once
  brings-allowed : {way : Bool} {n : TypeNode} {brought : Payload} {gas : ℕ} {t : TypeId} {m : Mode}
      → Brings lists x types way n brought gas (Some t) → Allows lists m n → IsLinearMode m
  brings-allowed (own_label bs l t goes) allowed = allowed
  brings-allowed (other_label bs l t goes) allowed = allowed
  brings-allowed (own_channel sent t name is) allowed = allowed
  brings-allowed (other_channel sent t name is) allowed = allowed
  brings-allowed (own_value kind t v has) allowed = allowed
  brings-allowed (other_value kind t v has) allowed = allowed
  brings-allowed (own_potential r t) allowed = allowed
  brings-allowed (other_potential r t) allowed = allowed

  module _ (formed : IsWellFormed lists) {way : Bool} {u t : TypeId} {m : Mode} {n : TypeNode} {brought : Payload}
      {gas : ℕ} where
    -- a talk that goes on keeps its mode
    pub brings-keeps_mode : HasMode lists u m → Unfolds lists u.0 n → Brings lists x types way n brought gas (Some t)
        → HasMode lists t m
    brings-keeps_mode has unfolds brings =
        part-has_mode formed.program formed.contractive formed.modes has unfolds (brings-part m brings)

    -- only what is used exactly once goes on
    pub brings-linear : HasMode lists u m → Unfolds lists u.0 n → Brings lists x types way n brought gas (Some t)
        → IsLinearMode m
    brings-linear has unfolds brings =
        let (v, there, at) = unfolding-keeps_mode formed.program formed.contractive formed.modes has unfolds in
        brings-allowed brings (formed.modes.allowed v m n at there)

-- ---- by the side from which a process sees its channel

module _ {lists : ProgramLists} {x : Annotations} {types : NameTypes} where
  -- what is sent
  pub sent-label : (c : Chan) (bs : List Branch) (l : Label) (t : TypeId) → goes_by bs l ≡ Some t
      → Brings lists x types (is_own c) (by_side c (node.Plus bs) (node.With bs)) (payload.Label l) 0 (Some t)
  sent-label chan.Own bs l t goes = own_label bs l t goes
  sent-label (chan.Var v) bs l t goes = other_label bs l t goes

  pub sent-channel : (c : Chan) (sent t : TypeId) (name : ℕ) → NameHasType lists x types name sent
      → Brings lists x types (is_own c) (by_side c (node.Tensor sent t) (node.Lolli sent t)) (payload.Channel name) 0
      (Some t)
  sent-channel chan.Own sent t name is = own_channel sent t name is
  sent-channel (chan.Var v) sent t name is = other_channel sent t name is

  pub sent-one_value : (c : Chan) (kind : Kind) (t : TypeId) (v : Value) → ValueHasKind v kind
      → Brings lists x types (is_own c) (by_side c (node.ValueOut kind t) (node.ValueIn kind t)) (payload.Value v) 0
      (Some t)
  sent-one_value chan.Own kind t v has = own_value kind t v has
  sent-one_value (chan.Var w) kind t v has = other_value kind t v has

  pub sent-potential : (c : Chan) (r : Amount) (t : TypeId)
      → Brings lists x types (is_own c) (by_side c (node.PotOut r t) (node.PotIn r t)) payload.Pay (dths x r) (Some t)
  sent-potential chan.Own r t = own_potential r t
  sent-potential (chan.Var v) r t = other_potential r t

  -- what is received
  pub received-label : (c : Chan) (bs : List Branch) {brought : Payload} {gas : ℕ} {goes : Option TypeId}
      → Brings lists x types (not (is_own c)) (by_side c (node.With bs) (node.Plus bs)) brought gas goes
      → (l : Label) × (t : TypeId) × (brought ≡ payload.Label l) × (gas ≡ 0) × (goes ≡ Some t) × (goes_by bs l ≡ Some t)
  received-label chan.Own bs (other_label _ l t goes) = (l, t, refl, refl, refl, goes)
  received-label (chan.Var v) bs (own_label _ l t goes) = (l, t, refl, refl, refl, goes)

  pub received-channel : (c : Chan) (sent t : TypeId) {brought : Payload} {gas : ℕ} {goes : Option TypeId}
      → Brings lists x types (not (is_own c)) (by_side c (node.Lolli sent t) (node.Tensor sent t)) brought gas goes
      → (name : ℕ) × (brought ≡ payload.Channel name) × (gas ≡ 0) × (goes ≡ Some t)
      × NameHasType lists x types name sent
  received-channel chan.Own sent t (other_channel _ _ name is) = (name, refl, refl, refl, is)
  received-channel (chan.Var v) sent t (own_channel _ _ name is) = (name, refl, refl, refl, is)

  pub received-one_value : (c : Chan) (kind : Kind) (t : TypeId) {brought : Payload} {gas : ℕ} {goes : Option TypeId}
      → Brings lists x types (not (is_own c)) (by_side c (node.ValueIn kind t) (node.ValueOut kind t)) brought gas goes
      → (v : Value) × (brought ≡ payload.Value v) × (gas ≡ 0) × (goes ≡ Some t) × ValueHasKind v kind
  received-one_value chan.Own kind t (other_value _ _ v has) = (v, refl, refl, refl, has)
  received-one_value (chan.Var w) kind t (own_value _ _ v has) = (v, refl, refl, refl, has)

  pub received-potential : (c : Chan) (r : Amount) (t : TypeId) {brought : Payload} {gas : ℕ} {goes : Option TypeId}
      → Brings lists x types (not (is_own c)) (by_side c (node.PotIn r t) (node.PotOut r t)) brought gas goes
      → (brought ≡ payload.Pay) × (gas ≡ dths x r) × (goes ≡ Some t)
  received-potential chan.Own r t (other_potential _ _) = (refl, refl, refl)
  received-potential (chan.Var v) r t (own_potential _ _) = (refl, refl, refl)

  pub received-end : {brought : Payload} {gas : ℕ} {goes : Option TypeId}
      → Brings lists x types true node.One brought gas goes → (brought ≡ payload.Close) × (gas ≡ 0) × (goes ≡ None)
  received-end end = (refl, refl, refl)
