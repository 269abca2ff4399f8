-- The typing rules: one constructor for each line of the table. It relates a judgement to those with which the
-- instruction goes on.
use Rattle.std.specs.Prelude.{◌≡◌, ◌≤◌, ◌+◌, ◌-◌, ℕ, List, [], ◌∷◌, Some, slice_get}
use Rattle.nomos_ir.specs.declared.amount.Amount.{Amount}
use Rattle.nomos_ir.specs.declared.code_node.Args.{Args}
use Rattle.nomos_ir.specs.declared.code_node.Arm.{Arm}
use Rattle.nomos_ir.specs.declared.code_node.Chan.{Chan}
use Rattle.nomos_ir.specs.declared.code_node.Chan.TheVariants as chan
use Rattle.nomos_ir.specs.declared.code_node.CodeNode.{CodeNode}
use Rattle.nomos_ir.specs.declared.code_node.CodeNode.TheVariants as code
use Rattle.nomos_ir.specs.declared.declaration.ProcDecl.{ProcDecl}
use Rattle.nomos_ir.specs.declared.ids.CodeId.{CodeId}
use Rattle.nomos_ir.specs.declared.ids.Label.{Label}
use Rattle.nomos_ir.specs.declared.ids.ProcId.{ProcId}
use Rattle.nomos_ir.specs.declared.ids.TermId.{TermId}
use Rattle.nomos_ir.specs.declared.ids.TypeId.{TypeId}
use Rattle.nomos_ir.specs.declared.ids.VarId.{VarId}
use Rattle.nomos_ir.specs.declared.kind.Kind.{Kind}
use Rattle.nomos_ir.specs.declared.lists.ProgramLists.{ProgramLists}
use Rattle.nomos_ir.specs.declared.mode.Mode.{Mode}
use Rattle.nomos_ir.specs.declared.mode.Mode.TheVariants as mode
use Rattle.nomos_ir.specs.declared.type_node.TypeNode.TheVariants as node
use Rattle.nomos_ir.specs.Bindings.{unbind}
use Rattle.nomos_ir.specs.TermKind.{HasKind, bool_kind}
use Rattle.nomos_types.specs.Amount.{Annotations, dths}
use Rattle.nomos_types.specs.Judgement.{Judgement, ListType, IsFree, at_code, goes_on, with_potential, binds_value, binds_list, binds_channel}
use Rattle.nomos_types.specs.Premises.{HasType, SendsLabel, AwaitsLabel, SendsChannel, ReceivesChannel, SendsValue, ReceivesValue, Pays, Gets, Accepts, Detaches, Acquires, Releases, Spawns, Closes, Forwards, Calls, Adds, TakesApart}

-- the instruction at which the judgement stands
abbrev pub StandsAtCode : ProgramLists → Judgement → CodeNode → Type 0
StandsAtCode lists j n = slice_get lists.code j.code.0 ≡ Some n

-- the judgement without a list that is used up, at the next instruction
abbrev pub without_list : Judgement → VarId → CodeId → Judgement
without_list j w next = record (at_code j next) { lists = unbind w.0 j.lists }

-- the judgement in which a list was taken apart into its head and its tail
abbrev pub takes_parts : Judgement → VarId → VarId → VarId → ListType → CodeId → Judgement
takes_parts j w head tail list next = binds_value (binds_list (without_list j w next) tail list) head list.kind

-- the judgement without a channel that is used up
abbrev pub gives_up : Judgement → VarId → Judgement
gives_up j v = record j { linear = unbind v.0 j.linear }

-- The typing rules, one for each instruction: the judgement before it, and those with which it goes on, of which there
-- are several at a branch and none at an end.
pub data TypingRule (lists : ProgramLists) (x : Annotations) : Judgement → List Judgement → Type 0 where
  label : {j : Judgement} {at : ℕ} {c : Chan} {l : Label} {next : CodeId}
      → StandsAtCode lists j (code.Label at c l next)
      → (t : TypeId) → SendsLabel lists j c l t
      → TypingRule lists x j (goes_on j c t next ∷ [])
  case : {j : Judgement} {at : ℕ} {c : Chan} {arms : List Arm} → StandsAtCode lists j (code.Case at c arms)
      → (after : List Judgement) → AwaitsLabel lists j c arms after
      → TypingRule lists x j after
  send : {j : Judgement} {at : ℕ} {c : Chan} {y : VarId} {next : CodeId} → StandsAtCode lists j (code.Send at c y next)
      → (left : Judgement) (t : TypeId) → SendsChannel lists x j c y left t
      → TypingRule lists x j (goes_on left c t next ∷ [])
  recv : {j : Judgement} {at : ℕ} {c : Chan} {y : VarId} {next : CodeId} → StandsAtCode lists j (code.Recv at c y next)
      → (m : Mode) (carried t : TypeId) → ReceivesChannel lists j c y m carried t
      → TypingRule lists x j (binds_channel (goes_on j c t next) y m carried ∷ [])
  put : {j : Judgement} {at : ℕ} {c : Chan} {e : TermId} {next : CodeId} → StandsAtCode lists j (code.Put at c e next)
      → (t : TypeId) → SendsValue lists j c e t
      → TypingRule lists x j (goes_on j c t next ∷ [])
  take : {j : Judgement} {at : ℕ} {c : Chan} {v : VarId} {next : CodeId} → StandsAtCode lists j (code.Take at c v next)
      → (kind : Kind) (t : TypeId) → ReceivesValue lists j c v kind t
      → TypingRule lists x j (binds_value (goes_on j c t next) v kind ∷ [])
  pay : {j : Judgement} {at : ℕ} {c : Chan} {r : Amount} {next : CodeId} → StandsAtCode lists j (code.Pay at c r next)
      → (t : TypeId) → Pays lists x j c r t
      → TypingRule lists x j (with_potential (goes_on j c t next) (j.q - dths x r) ∷ [])
  get : {j : Judgement} {at : ℕ} {c : Chan} {r : Amount} {next : CodeId} → StandsAtCode lists j (code.Get at c r next)
      → (t : TypeId) → Gets lists x j c r t
      → TypingRule lists x j (with_potential (goes_on j c t next) (j.q + dths x r) ∷ [])
  work : {j : Judgement} {at : ℕ} {r : Amount} {next : CodeId} → StandsAtCode lists j (code.Work at r next)
      → dths x r ≤ j.q
      → TypingRule lists x j (with_potential (at_code j next) (j.q - dths x r) ∷ [])
  wait : {j : Judgement} {at : ℕ} {v : VarId} {next : CodeId} → StandsAtCode lists j (code.Wait at v next)
      → HasType lists j (chan.Var v) node.One
      → TypingRule lists x j (at_code (gives_up j v) next ∷ [])
  accept : {j : Judgement} {at : ℕ} {next : CodeId} → StandsAtCode lists j (code.Accept at next)
      → (t : TypeId) → Accepts lists j t
      → TypingRule lists x j (record j { mode = mode.L; offers = t; code = next } ∷ [])
  detach : {j : Judgement} {at : ℕ} {next : CodeId} → StandsAtCode lists j (code.Detach at next)
      → (t : TypeId) → Detaches lists j t
      → TypingRule lists x j (record j { mode = mode.S; offers = t; code = next } ∷ [])
  acquire : {j : Judgement} {at : ℕ} {a v : VarId} {next : CodeId} → StandsAtCode lists j (code.Acquire at a v next)
      → (t : TypeId) → Acquires lists j a v t
      → TypingRule lists x j (binds_channel (at_code j next) v mode.L t ∷ [])
  release : {j : Judgement} {at : ℕ} {v a : VarId} {next : CodeId} → StandsAtCode lists j (code.Release at v a next)
      → (t : TypeId) → Releases lists j v a t
      → TypingRule lists x j (binds_channel (at_code (gives_up j v) next) a mode.S t ∷ [])
  spawn : {j : Judgement} {at : ℕ} {v : VarId} {f : ProcId} {args : Args} {next : CodeId}
      → StandsAtCode lists j (code.Spawn at v f args next)
      → (d : ProcDecl) (left : Judgement) → Spawns lists x j v f args d left
      → TypingRule lists x j (binds_channel (with_potential (at_code left next) (j.q - dths x d.amount)) v d.mode
      d.offers ∷ [])
  «let» : {j : Judgement} {at : ℕ} {v : VarId} {e : TermId} {next : CodeId}
      → StandsAtCode lists j (code.Let at v e next)
      → (kind : Kind) → HasKind lists j.kinds e kind → IsFree j v
      → TypingRule lists x j (binds_value (at_code j next) v kind ∷ [])
  emit : {j : Judgement} {at : ℕ} {e : TermId} {next : CodeId} → StandsAtCode lists j (code.Emit at e next)
      → (kind : Kind) → HasKind lists j.kinds e kind
      → TypingRule lists x j (at_code j next ∷ [])
  choose : {j : Judgement} {at : ℕ} {e : TermId} {then_next else_next : CodeId}
      → StandsAtCode lists j (code.If at e then_next else_next)
      → HasKind lists j.kinds e bool_kind
      → TypingRule lists x j (at_code j then_next ∷ at_code j else_next ∷ [])
  close : {j : Judgement} {at : ℕ} → StandsAtCode lists j (code.Close at)
      → Closes lists j
      → TypingRule lists x j []
  fwd : {j : Judgement} {at : ℕ} {v : VarId} → StandsAtCode lists j (code.Fwd at v)
      → Forwards lists x j v
      → TypingRule lists x j []
  call : {j : Judgement} {at : ℕ} {f : ProcId} {args : Args} → StandsAtCode lists j (code.Call at f args)
      → Calls lists x j f args
      → TypingRule lists x j []
  empty : {j : Judgement} {at : ℕ} {v : VarId} {r : Amount} {kind : Kind} {next : CodeId}
      → StandsAtCode lists j (code.Empty at v r kind next)
      → IsFree j v
      → TypingRule lists x j (binds_list (at_code j next) v (record { kind = kind; amount = dths x r }) ∷ [])
  add : {j : Judgement} {at : ℕ} {v : VarId} {e : TermId} {w : VarId} {next : CodeId}
      → StandsAtCode lists j (code.Add at v e w next)
      → (list : ListType) → Adds lists j v e w list
      → TypingRule lists x j (with_potential (binds_list (without_list j w next) v list) (j.q - list.amount) ∷ [])
  match : {j : Judgement} {at : ℕ} {w head tail : VarId} {empty_next full_next : CodeId}
      → StandsAtCode lists j (code.Match at w empty_next head tail full_next)
      → (list : ListType) → TakesApart j w head tail list
      → TypingRule lists x j (without_list j w empty_next ∷
      with_potential (takes_parts j w head tail list full_next) (j.q + list.amount) ∷ [])
