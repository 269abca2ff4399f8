-- What each instruction asks of the judgement at which it stands: one record for each line of the typing rules.
-- The premises stand in the order of the rule; what is last, if anything, is what the instruction leaves.
use Rattle.std.specs.Prelude.{◌≡◌, ◌≢◌, ◌≤◌, ◌⊎◌, IsTrue, List, [], ◌∷◌, map, All, Contains, Some, slice_get}
use Rattle.nomos_ir.specs.declared.amount.Amount.{Amount}
use Rattle.nomos_ir.specs.declared.code_node.Args.{Args}
use Rattle.nomos_ir.specs.declared.code_node.Arm.{Arm}
use Rattle.nomos_ir.specs.declared.code_node.Chan.{Chan}
use Rattle.nomos_ir.specs.declared.code_node.Chan.TheVariants as chan
use Rattle.nomos_ir.specs.declared.declaration.ProcDecl.{ProcDecl}
use Rattle.nomos_ir.specs.declared.ids.Label.{Label}
use Rattle.nomos_ir.specs.declared.ids.ProcId.{ProcId}
use Rattle.nomos_ir.specs.declared.ids.TermId.{TermId}
use Rattle.nomos_ir.specs.declared.ids.TypeId.{TypeId}
use Rattle.nomos_ir.specs.declared.ids.VarId.{VarId}
use Rattle.nomos_ir.specs.declared.kind.Kind.{Kind}
use Rattle.nomos_ir.specs.declared.lists.ProgramLists.{ProgramLists}
use Rattle.nomos_ir.specs.declared.mode.Mode.{Mode}
use Rattle.nomos_ir.specs.declared.mode.Mode.TheVariants as modes
use Rattle.nomos_ir.specs.declared.type_node.Branch.{Branch}
use Rattle.nomos_ir.specs.declared.type_node.TypeNode.{TypeNode}
use Rattle.nomos_ir.specs.declared.type_node.TypeNode.TheVariants as node
use Rattle.nomos_ir.specs.Bindings.{bound_to}
use Rattle.nomos_ir.specs.TermKind.{HasKind}
use Rattle.nomos_ir.specs.Unfold.{Unfolds}
use Rattle.nomos_types.specs.Alike.{AlikeTypes}
use Rattle.nomos_types.specs.Amount.{Annotations, dths}
use Rattle.nomos_types.specs.Arguments.{PassesChannel, ArgumentsFit}
use Rattle.nomos_types.specs.Branches.{goes_by}
use Rattle.nomos_types.specs.Judgement.{Judgement, ListType, IsFree, channel_type, goes_on}
use Rattle.nomos_types.specs.Modes.{HasMode, may_spawn}

-- the node to which the type of a channel has to unfold: one where the process provides the channel, the dual one
-- where it is the client
abbrev pub by_side : Chan → TypeNode → TypeNode → TypeNode
by_side chan.Own own client = own
by_side (chan.Var v) own client = client

-- the channel's type unfolds to that node
abbrev pub HasType : ProgramLists → Judgement → Chan → TypeNode → Type 0
HasType lists j c n = (t : TypeId) × (channel_type j c ≡ Some t) × Unfolds lists t.0 n

-- A label is sent: a choice that the process makes, which goes on at t.
pub record SendsLabel (lists : ProgramLists) (j : Judgement) (c : Chan) (l : Label) (t : TypeId) : Type 0 where
  pub branches : List Branch
  pub channel : HasType lists j c (by_side c (node.Plus branches) (node.With branches))
  pub goes : goes_by branches l ≡ Some t

-- the arms go on, each at the type of its label, in order
pub data ArmsGoOn (j : Judgement) (c : Chan) (branches : List Branch) : List Arm → List Judgement → Type 0 where
  none : ArmsGoOn j c branches [] []
  arm : {a : Arm} {arms : List Arm} {after : List Judgement} → (t : TypeId) → goes_by branches a.label ≡ Some t
      → ArmsGoOn j c branches arms after → ArmsGoOn j c branches (a ∷ arms) (goes_on j c t a.goes ∷ after)

-- A label is awaited: a choice that is made at the other end, whose labels are exactly those of the arms.
pub record AwaitsLabel (lists : ProgramLists) (j : Judgement) (c : Chan) (arms : List Arm)
    (after : List Judgement) : Type 0 where
  pub branches : List Branch
  pub channel : HasType lists j c (by_side c (node.With branches) (node.Plus branches))
  pub each_label : (l : Label) (t : TypeId) → goes_by branches l ≡ Some t → Contains (map (λ a. a.label) arms) l
  pub each_arm : ArmsGoOn j c branches arms after

-- A channel is sent, over another one, which goes on at t.
pub record SendsChannel (lists : ProgramLists) (x : Annotations) (j : Judgement) (c : Chan) (y : VarId)
    (left : Judgement) (t : TypeId) : Type 0 where
  pub carried : TypeId
  pub channel : HasType lists j c (by_side c (node.Tensor carried t) (node.Lolli carried t))
  pub other : c ≢ chan.Var y
  pub passes : PassesChannel lists x j y carried left

-- A channel of this mode and type is received, over one that goes on at t.
pub record ReceivesChannel (lists : ProgramLists) (j : Judgement) (c : Chan) (y : VarId) (m : Mode)
    (carried t : TypeId) : Type 0 where
  pub channel : HasType lists j c (by_side c (node.Lolli carried t) (node.Tensor carried t))
  pub mode : HasMode lists carried m
  pub free : IsFree j y

-- A value is sent.
pub record SendsValue (lists : ProgramLists) (j : Judgement) (c : Chan) (e : TermId) (t : TypeId) : Type 0 where
  pub kind : Kind
  pub channel : HasType lists j c (by_side c (node.ValueOut kind t) (node.ValueIn kind t))
  pub value : HasKind lists j.kinds e kind

-- A value of this kind is received.
pub record ReceivesValue (lists : ProgramLists) (j : Judgement) (c : Chan) (v : VarId) (kind : Kind)
    (t : TypeId) : Type 0 where
  pub channel : HasType lists j c (by_side c (node.ValueIn kind t) (node.ValueOut kind t))
  pub free : IsFree j v

-- Potential is paid.
pub record Pays (lists : ProgramLists) (x : Annotations) (j : Judgement) (c : Chan) (r : Amount) (t : TypeId)
    : Type 0 where
  pub amount : Amount
  pub channel : HasType lists j c (by_side c (node.PotOut amount t) (node.PotIn amount t))
  pub same : dths x r ≡ dths x amount
  pub enough : dths x r ≤ j.q

-- Potential is got.
pub record Gets (lists : ProgramLists) (x : Annotations) (j : Judgement) (c : Chan) (r : Amount) (t : TypeId)
    : Type 0 where
  pub amount : Amount
  pub channel : HasType lists j c (by_side c (node.PotIn amount t) (node.PotOut amount t))
  pub same : dths x r ≡ dths x amount

-- A shared contract accepts a client.
pub record Accepts (lists : ProgramLists) (j : Judgement) (t : TypeId) : Type 0 where
  pub mode : j.mode ≡ modes.S
  pub channel : HasType lists j chan.Own (node.Up t)

-- A held contract detaches from its client, and holds no contract itself.
pub record Detaches (lists : ProgramLists) (j : Judgement) (t : TypeId) : Type 0 where
  pub mode : j.mode ≡ modes.L
  pub channel : HasType lists j chan.Own (node.Down t)
  pub nothing_held : All (λ b. HasMode lists b.1 modes.R) j.linear

-- A client acquires a shared contract by a reference.
pub record Acquires (lists : ProgramLists) (j : Judgement) (a : VarId) (v : VarId) (t : TypeId) : Type 0 where
  pub mode : (j.mode ≡ modes.L) ⊎ (j.mode ≡ modes.T)
  pub own : TypeId
  pub reference : bound_to a.0 j.shared ≡ Some own
  pub unfolds : Unfolds lists own.0 (node.Up t)
  pub free : IsFree j v

-- A client releases a contract, and has a reference to it again.
pub record Releases (lists : ProgramLists) (j : Judgement) (v : VarId) (a : VarId) (t : TypeId) : Type 0 where
  pub channel : HasType lists j (chan.Var v) (node.Down t)
  pub free : IsFree j a

-- A process is spawned.
pub record Spawns (lists : ProgramLists) (x : Annotations) (j : Judgement) (v : VarId) (f : ProcId)
    (args : Args) (d : ProcDecl) (left : Judgement) : Type 0 where
  pub declared : slice_get lists.procs f.0 ≡ Some d
  pub mode : IsTrue (may_spawn j.mode d.mode)
  pub arguments : ArgumentsFit lists x j d args left
  pub enough : dths x d.amount ≤ j.q
  pub free : IsFree j v

-- A process ends, and holds nothing that it would have to use.
pub record Closes (lists : ProgramLists) (j : Judgement) : Type 0 where
  pub channel : HasType lists j chan.Own node.One
  pub mode : (j.mode ≡ modes.R) ⊎ (j.mode ≡ modes.T)
  pub nothing_held : j.linear ≡ []

-- A process hands its place to the one channel that it holds.
pub record Forwards (lists : ProgramLists) (x : Annotations) (j : Judgement) (v : VarId) : Type 0 where
  pub mode : j.mode ≡ modes.R
  pub own : TypeId
  pub only : j.linear ≡ (v, own) ∷ []
  pub alike : AlikeTypes lists x j.offers own

-- A process goes on as another declaration, and hands over all that it would have to use.
pub record Calls (lists : ProgramLists) (x : Annotations) (j : Judgement) (f : ProcId) (args : Args) : Type 0 where
  pub d : ProcDecl
  pub declared : slice_get lists.procs f.0 ≡ Some d
  pub offers : AlikeTypes lists x j.offers d.offers
  pub mode : d.mode ≡ j.mode
  pub left : Judgement
  pub arguments : ArgumentsFit lists x j d args left
  pub nothing_held : left.linear ≡ []
  pub enough : dths x d.amount ≤ j.q

-- An element is put before a list; it takes the amount of the list along.
pub record Adds (lists : ProgramLists) (j : Judgement) (v : VarId) (e : TermId) (w : VarId) (list : ListType)
    : Type 0 where
  pub there : bound_to w.0 j.lists ≡ Some list
  pub element : HasKind lists j.kinds e list.kind
  pub enough : list.amount ≤ j.q
  pub free : IsFree j v

-- A list is taken apart into its head, which frees its amount, and its tail.
pub record TakesApart (j : Judgement) (w head tail : VarId) (list : ListType) : Type 0 where
  pub there : bound_to w.0 j.lists ≡ Some list
  pub differ : head ≢ tail
  pub head_free : IsFree j head
  pub tail_free : IsFree j tail
