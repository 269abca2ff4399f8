-- Wrong states.
use Rattle.std.specs.Prelude.{◌≡◌, ◌≢◌, ◌≤◌, ◌<◌, ◌+◌, ℕ, not, List, [], ◌∷◌, map, Contains, Some, slice_get}
use Rattle.nomos_ir.specs.Order.{count_of}
use Rattle.nomos_ir.specs.Bindings.{bound_to}
use Rattle.nomos_ir.specs.ValueKind.{ValueHasKind}
use Rattle.nomos_ir.specs.declared.amount.Amount.{Amount}
use Rattle.nomos_ir.specs.declared.code_node.Args.{Args}
use Rattle.nomos_ir.specs.declared.code_node.Chan.{Chan}
use Rattle.nomos_ir.specs.declared.code_node.Chan.TheVariants as chan
use Rattle.nomos_ir.specs.declared.code_node.CodeNode.{CodeNode}
use Rattle.nomos_ir.specs.declared.code_node.CodeNode.TheVariants as code
use Rattle.nomos_ir.specs.declared.declaration.ProcDecl.{ProcDecl}
use Rattle.nomos_ir.specs.declared.ids.CodeId.{CodeId}
use Rattle.nomos_ir.specs.declared.ids.ProcId.{ProcId}
use Rattle.nomos_ir.specs.declared.ids.TermId.{TermId}
use Rattle.nomos_ir.specs.declared.ids.TypeId.{TypeId}
use Rattle.nomos_ir.specs.declared.ids.VarId.{VarId}
use Rattle.nomos_ir.specs.declared.kind.Kind.{Kind}
use Rattle.nomos_ir.specs.declared.mode.Mode.{Mode}
use Rattle.nomos_types.specs.Acceptance.{Acceptance}
use Rattle.nomos_types.specs.Amount.{dths}
use Rattle.nomos_types.specs.Judgement.{Judgement}
use Rattle.nomos_types.specs.Modes.{HasMode, IsLinearMode}
use Rattle.nomos_types.specs.Places.{IsPlace}
use Rattle.nomos_machine.specs.Objects.{provided, used, times, potential_of}
use Rattle.nomos_machine.specs.Sight.{is_own, present_name}
use Rattle.nomos_machine.specs.State.{State, type_of}
use Rattle.nomos_machine.specs.declared.object.PotentialList.{PotentialList}
use Rattle.nomos_machine.specs.declared.object.Message.{Message}
use Rattle.nomos_machine.specs.declared.object.Object.TheVariants as object
use Rattle.nomos_machine.specs.declared.object.Payload.{Payload}
use Rattle.nomos_machine.specs.declared.object.Payload.TheVariants as payload
use Rattle.nomos_machine.specs.declared.object.Process.{Process}

-- The channel to which a process turns at an instruction: it sends or receives on it, waits for its end, releases it,
-- or provides it and accepts, detaches or closes. To pass a channel on is not to turn to it.
abbrev pub turns_to : CodeNode → List Chan
turns_to (code.Label _ c l next) = c ∷ []
turns_to (code.Case _ c arms) = c ∷ []
turns_to (code.Send _ c y next) = c ∷ []
turns_to (code.Recv _ c y next) = c ∷ []
turns_to (code.Put _ c e next) = c ∷ []
turns_to (code.Take _ c v next) = c ∷ []
turns_to (code.Pay _ c r next) = c ∷ []
turns_to (code.Get _ c r next) = c ∷ []
turns_to (code.Wait _ v next) = chan.Var v ∷ []
turns_to (code.Release _ v r next) = chan.Var v ∷ []
turns_to (code.Accept _ next) = chan.Own ∷ []
turns_to (code.Detach _ next) = chan.Own ∷ []
turns_to (code.Close _) = chan.Own ∷ []
turns_to _ = []

-- a variable has this kind where a process goes on, by the rules from the start of a declaration
pub record HasKindAt (a : Acceptance) (next : CodeId) (v : VarId) (kind : Kind) : Type 0 where
  pub place : Judgement
  pub is_place : IsPlace a.program a.annotations place
  pub here : place.code ≡ next
  pub bound : bound_to v.0 place.kinds ≡ Some kind

-- the instruction receives what is brought with so much gas
abbrev pub Receives : Acceptance → CodeNode → Payload → ℕ → Type 0
Receives a (code.Case _ c arms) (payload.Label l) gas = Contains (map (λ arm. arm.label) arms) l
Receives a (code.Recv _ c y next) (payload.Channel name) gas = Unit {0}
Receives a (code.Take _ c v next) (payload.Value x) gas = (kind : Kind) × HasKindAt a next v kind × ValueHasKind x kind
Receives a (code.Get _ c r next) payload.Pay gas = gas ≡ dths a.annotations r
Receives a (code.Wait _ v next) payload.Close gas = Unit {0}
Receives a _ _ gas = ⊥

-- what an instruction needs free in the purse of its process, in Dths
pub data Needs (a : Acceptance) (p : Process) : CodeNode → ℕ → Type 0 where
  work : (at : ℕ) (r : Amount) (next : CodeId) → Needs a p (code.Work at r next) (dths a.annotations r)
  pay : (at : ℕ) (c : Chan) (r : Amount) (next : CodeId) → Needs a p (code.Pay at c r next) (dths a.annotations r)
  add : (at : ℕ) (v : VarId) (e : TermId) (w : VarId) (next : CodeId) (l : PotentialList)
      → bound_to w.0 p.lists ≡ Some l
      → Needs a p (code.Add at v e w next) l.amount
  spawn : (at : ℕ) (v : VarId) (f : ProcId) (args : Args) (next : CodeId) (d : ProcDecl)
      → slice_get a.program.procs f.0 ≡ Some d → Needs a p (code.Spawn at v f args next) (dths a.annotations d.amount)
  call : (at : ℕ) (f : ProcId) (args : Args) (d : ProcDecl) → slice_get a.program.procs f.0 ≡ Some d
      → Needs a p (code.Call at f args) (dths a.annotations d.amount)

-- A state is wrong where one of these holds.
pub data Wrong (a : Acceptance) (s : State) : Type 0 where
  -- a process turns to a channel on which it gets a message that its instruction does not receive
  unexpected : (m : Message) (p : Process) (n : CodeNode) (c : Chan) → Contains s.objects (object.Message m)
      → Contains s.objects (object.Process p) → slice_get a.program.code p.code.0 ≡ Some n → Contains (turns_to n) c
      → present_name p c ≡ Some m.from → m.to_client ≡ not (is_own c) → ¬ (Receives a n m.payload m.purse) → Wrong a s
  -- two objects provide one name
  provided_twice : (name : ℕ) → 2 ≤ times provided s.objects name → Wrong a s
  -- a name of mode R or L that is no outside name is used by no object, by two, or twice by one
  not_used_once : (name : ℕ) (t : TypeId) (m : Mode) → type_of s.types name ≡ Some t → HasMode a.program t m
      → IsLinearMode m → count_of name s.outside ≡ 0 → times used s.objects name ≢ 1 → Wrong a s
  -- an object uses an outside name, or there is one twice
  used_outside : (name : ℕ) → 1 ≤ count_of name s.outside → 1 ≤ times used s.objects name → Wrong a s
  twice_outside : (name : ℕ) → 2 ≤ count_of name s.outside → Wrong a s
  -- a process has less in its purse than its instruction needs free and its lists carry
  lacks_gas : (p : Process) (n : CodeNode) (needs : ℕ) → Contains s.objects (object.Process p)
      → slice_get a.program.code p.code.0 ≡ Some n → Needs a p n needs → p.purse < needs + potential_of p → Wrong a s
