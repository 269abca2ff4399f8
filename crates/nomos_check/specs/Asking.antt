-- Which pairs of amounts an instruction needs to be worth the same.
use Rattle.std.specs.Prelude.{◌≡◌, ◌⊎◌, ℕ, Contains, Some, slice_get, zip}
use Rattle.nomos_ir.specs.declared.amount.Amount.{Amount}
use Rattle.nomos_ir.specs.declared.code_node.Args.{Args}
use Rattle.nomos_ir.specs.declared.code_node.Chan.{Chan}
use Rattle.nomos_ir.specs.declared.code_node.CodeNode.TheVariants as code
use Rattle.nomos_ir.specs.declared.code_node.ValueArg.TheVariants as arg
use Rattle.nomos_ir.specs.declared.declaration.Par.{Par}
use Rattle.nomos_ir.specs.declared.declaration.ProcDecl.{ProcDecl}
use Rattle.nomos_ir.specs.declared.ids.CodeId.{CodeId}
use Rattle.nomos_ir.specs.declared.ids.ProcId.{ProcId}
use Rattle.nomos_ir.specs.declared.ids.TypeId.{TypeId}
use Rattle.nomos_ir.specs.declared.ids.VarId.{VarId}
use Rattle.nomos_ir.specs.declared.lists.ProgramLists.{ProgramLists}
use Rattle.nomos_ir.specs.declared.type_node.TypeNode.TheVariants as node
use Rattle.nomos_ir.specs.Bindings.{bound_to}
use Rattle.nomos_equality.specs.Paths.{StandAtEqualPaths}
use Rattle.nomos_types.specs.Judgement.{Judgement}
use Rattle.nomos_types.specs.Premises.{HasType, by_side}
use Rattle.nomos_types.specs.TypingRule.{StandsAtCode}
use Rattle.nomos_check.specs.Account.{Account}
use Rattle.nomos_check.specs.Reaching.{Outset, GetsTo}

-- the variable is that of a channel or a reference of this type
abbrev pub IsOfType : Judgement → VarId → TypeId → Type 0
IsOfType j v t = (bound_to v.0 j.shared ≡ Some t) ⊎ (bound_to v.0 j.linear ≡ Some t)

-- a spawned or called declaration with its arguments
pub data Invokes (lists : ProgramLists) (j : Judgement) : ProcDecl → Args → Type 0 where
  spawns : {at : ℕ} {v : VarId} {f : ProcId} {args : Args} {next : CodeId} {d : ProcDecl}
      → StandsAtCode lists j (code.Spawn at v f args next) → slice_get lists.procs f.0 ≡ Some d → Invokes lists j d args
  calls : {at : ℕ} {f : ProcId} {args : Args} {d : ProcDecl}
      → StandsAtCode lists j (code.Call at f args) → slice_get lists.procs f.0 ≡ Some d → Invokes lists j d args

-- The instruction needs the two types to be equal: where a channel passes for another type, and where a process hands
-- its place on.
pub data ComparesTypes (lists : ProgramLists) (j : Judgement) : TypeId → TypeId → Type 0 where
  sent : {at : ℕ} {c : Chan} {y : VarId} {next : CodeId} {own carried : TypeId}
      → StandsAtCode lists j (code.Send at c y next) → IsOfType j y own → (t : TypeId)
      → HasType lists j c (by_side c (node.Tensor carried t) (node.Lolli carried t))
      → ComparesTypes lists j own carried
  passed : {d : ProcDecl} {args : Args} {v : VarId} {par : VarId × TypeId} {own : TypeId} → Invokes lists j d args
      → Contains (zip args.channels d.channels) (v, par) → IsOfType j v own
      → ComparesTypes lists j own par.1
  called : {at : ℕ} {f : ProcId} {args : Args} {d : ProcDecl} → StandsAtCode lists j (code.Call at f args)
      → slice_get lists.procs f.0 ≡ Some d
      → ComparesTypes lists j j.offers d.offers
  forwarded : {at : ℕ} {v : VarId} {own : TypeId} → StandsAtCode lists j (code.Fwd at v)
      → bound_to v.0 j.linear ≡ Some own
      → ComparesTypes lists j j.offers own

-- The instruction needs the two amounts to be worth the same. These are what is paid and got with what the type says,
-- what a list argument carries with what its parameter says, and what stands at equal paths of compared types.
pub data AsksPair (lists : ProgramLists) (j : Judgement) (a : Account) : Amount × Amount → Type 0 where
  paid : {at : ℕ} {c : Chan} {r s : Amount} {next : CodeId} → StandsAtCode lists j (code.Pay at c r next)
      → (t : TypeId) → HasType lists j c (by_side c (node.PotOut s t) (node.PotIn s t))
      → AsksPair lists j a (r, s)
  got : {at : ℕ} {c : Chan} {r s : Amount} {next : CodeId} → StandsAtCode lists j (code.Get at c r next)
      → (t : TypeId) → HasType lists j c (by_side c (node.PotIn s t) (node.PotOut s t))
      → AsksPair lists j a (r, s)
  carried : {d : ProcDecl} {args : Args} {w : VarId} {par : Par} {r s : Amount} → Invokes lists j d args
      → Contains (zip args.values d.values) (arg.List w, par) → bound_to w.0 a.lists ≡ Some r → par.amount ≡ Some s
      → AsksPair lists j a (r, s)
  compared : {t u : TypeId} {pair : Amount × Amount} → ComparesTypes lists j t u → StandAtEqualPaths lists t u pair
      → AsksPair lists j a pair

-- at some place to which the process gets, the instruction asks for the pair
pub record IsAsked (lists : ProgramLists) (o : Outset) (pair : Amount × Amount) : Type 0 where
  pub judgement : Judgement
  pub account : Account
  pub reached : GetsTo lists o judgement account
  pub asks : AsksPair lists judgement account pair
