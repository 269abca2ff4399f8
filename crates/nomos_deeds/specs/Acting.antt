-- Acts that a state can make, and those that need no memory where room was made.
use Rattle.std.specs.Prelude.{◌≡◌, ◌<◌, ◌-◌, ◌^◌, ℕ, List, map, Option, Some, None, slice_get}
use Rattle.std.specs.List.Sorted.{IsStrictlySortedBy}
use Rattle.std.specs.Ordering.{nat_cmp}
use Rattle.nomos_ir.specs.Value.{Value}
use Rattle.nomos_ir.specs.declared.code_node.CodeNode.{CodeNode}
use Rattle.nomos_ir.specs.declared.code_node.CodeNode.TheVariants as code
use Rattle.nomos_ir.specs.declared.lists.ProgramLists.{ProgramLists}
use Rattle.nomos_eval.specs.SmallTest.{IsSmallTest}
use Rattle.nomos_types.specs.Acceptance.{Acceptance}
use Rattle.nomos_machine.specs.Change.{Change, CanGet, changed}
use Rattle.nomos_machine.specs.Objects.{object_number}
use Rattle.nomos_machine.specs.Optional.{◌>>=◌}
use Rattle.nomos_machine.specs.State.{State, gas_of, process_at}
use Rattle.nomos_machine.specs.declared.object.Process.{Process}
use Rattle.nomos_deeds.specs.Acts.{act_change}
use Rattle.nomos_deeds.specs.declared.act.Act.{Act}
use Rattle.nomos_deeds.specs.declared.act.Act.TheVariants as act
use Rattle.nomos_deeds.specs.declared.act.Doing.{Doing}
use Rattle.nomos_deeds.specs.declared.act.Doing.TheVariants as doing
use Rattle.nomos_deeds.specs.declared.act.Into.{Into}
use Rattle.nomos_deeds.specs.declared.act.Into.TheVariants as into

-- the change that the act of the process of a number makes, whose instruction's terms have these values
abbrev pub change_of : Acceptance → State → ℕ → List Value → Act → Option Change
change_of a s pid vs what = process_at s pid >>= λ p. act_change a s p vs what

-- the state after a change, if there is one
abbrev pub if_changed : State → Option Change → State
if_changed s (Some c) = changed s c
if_changed s None = s

abbrev pub after_act : Acceptance → State → ℕ → List Value → Act → State
after_act a s pid vs what = if_changed s (change_of a s pid vs what)

-- the next numbers are far from the greatest
pub record HasNumbers (s : State) : Type 0 where
  pub object : s.next_object < 2 ^ 32 - 1
  pub name : s.next_name < 2 ^ 32 - 1

-- The state has the change that the act makes; the objects are in order, and all numbers fit, before it and after it.
pub record CanAct (a : Acceptance) (s : State) (pid : ℕ) (vs : List Value) (what : Act) : Type 0 where
  pub change : Change
  pub makes : change_of a s pid vs what ≡ Some change
  pub ordered : IsStrictlySortedBy nat_cmp (map object_number s.objects)
  pub numbers : HasNumbers s
  pub gas : gas_of s < 2 ^ 96
  pub gas_after : gas_of (changed s change) < 2 ^ 96
  pub gets : CanGet change.gets s.balances

-- ---- firings that take no memory where room was made

-- instructions that need a bounded room alone
abbrev pub IsFrugalNode : ProgramLists → CodeNode → Type 0
IsFrugalNode lists (code.Work at r next) = Unit {0}
IsFrugalNode lists (code.Get at c r next) = Unit {0}
IsFrugalNode lists (code.Wait at v next) = Unit {0}
IsFrugalNode lists (code.Case at c arms) = Unit {0}
IsFrugalNode lists (code.Recv at c y next) = Unit {0}
IsFrugalNode lists (code.Acquire at r v next) = Unit {0}
IsFrugalNode lists (code.Release at v r next) = Unit {0}
IsFrugalNode lists (code.Close at) = Unit {0}
IsFrugalNode lists (code.Fwd at v) = Unit {0}
IsFrugalNode lists (code.If at e then_next else_next) = IsSmallTest lists e.0
IsFrugalNode lists _ = ⊥

-- the process of a number stands at one of them
pub record IsFrugal (a : Acceptance) (s : State) (pid : ℕ) : Type 0 where
  pub process : Process
  pub there : process_at s pid ≡ Some process
  pub node : CodeNode
  pub stands : slice_get a.program.code process.code.0 ≡ Some node
  pub frugal : IsFrugalNode a.program node

-- what a process does there
abbrev pub IsFrugalInto : Into → Type 0
IsFrugalInto (into.Value v) = ⊥
IsFrugalInto _ = Unit {0}

abbrev pub IsFrugalAct : Act → Type 0
IsFrugalAct (act.Receive receive) = IsFrugalInto receive.into
IsFrugalAct (act.Wait v number next) = Unit {0}
IsFrugalAct (act.Acquire acquire) = Unit {0}
IsFrugalAct (act.Release release) = Unit {0}
IsFrugalAct (act.Work gas next) = Unit {0}
IsFrugalAct (act.Choose next) = Unit {0}
IsFrugalAct act.Close = Unit {0}
IsFrugalAct (act.Forward name) = Unit {0}
IsFrugalAct _ = ⊥

abbrev pub IsFrugalDoing : Option Doing → Type 0
IsFrugalDoing (Some (doing.Acts what)) = IsFrugalAct what
IsFrugalDoing (Some (doing.Faults f)) = Unit {0}
IsFrugalDoing None = Unit {0}
