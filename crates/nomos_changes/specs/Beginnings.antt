-- What a process gives to a declaration at which it begins, or another one does.
use Rattle.std.specs.Prelude.{◌≡◌, ℕ, Bool, true, false, List, [], ◌∷◌, Option, Some, None, slice_get}
use Rattle.nomos_ir.specs.Value.{Value}
use Rattle.nomos_ir.specs.declared.code_node.Args.{Args}
use Rattle.nomos_ir.specs.declared.code_node.ValueArg.{ValueArg}
use Rattle.nomos_ir.specs.declared.code_node.ValueArg.TheVariants as arg
use Rattle.nomos_ir.specs.declared.declaration.ProcDecl.{ProcDecl}
use Rattle.nomos_ir.specs.declared.ids.ProcId.{ProcId}
use Rattle.nomos_ir.specs.declared.ids.TypeId.{TypeId}
use Rattle.nomos_ir.specs.declared.ids.VarId.{VarId}
use Rattle.nomos_types.specs.Acceptance.{Acceptance}
use Rattle.nomos_types.specs.Amount.{dths}
use Rattle.nomos_deeds.specs.Acts.{args_of}
use Rattle.nomos_deeds.specs.SeenObjects.{seen_process}
use Rattle.nomos_deeds.specs.declared.sight.SeenProcess.{SeenProcess}
use Rattle.nomos_machine.specs.Deeds.{hands_over_all, hands_over_lists}
use Rattle.nomos_machine.specs.Given.{Given, begins, given}
use Rattle.nomos_machine.specs.Optional.{◌>>=◌}
use Rattle.nomos_machine.specs.Revised.{poorer, standing_at, with_channel}
use Rattle.nomos_machine.specs.State.{State, process_at}
use Rattle.nomos_machine.specs.declared.object.Object.TheVariants as object
use Rattle.nomos_machine.specs.declared.object.PotentialList.{PotentialList}
use Rattle.nomos_machine.specs.declared.object.Process.{Process}
use Rattle.nomos_changes.specs.SmallChanges.{with_lists, with_name, with_object, with_process}
use Rattle.nomos_changes.specs.declared.spawning.Spawn.{Spawn}

-- The declaration of a number, the arguments of the instruction at which the process stands, and what these give.
pub record Begins (a : Acceptance) (p : Process) (f : ProcId) (vs : List Value) (d : ProcDecl) (args : Args)
    (g : Given) : Type 0 where
  pub declared : slice_get a.program.procs f.0 ≡ Some d
  pub stands : (slice_get a.program.code p.code.0 >>= args_of) ≡ Some args
  pub gives : given p vs args d ≡ Some g

-- The process of a number gives this, and has these plain fields.
pub record HasBegun (a : Acceptance) (s : State) (pid : ℕ) (f : ProcId) (vs : List Value) (d : ProcDecl) (args : Args)
    (g : Given) (seen : SeenProcess) : Type 0 where
  pub process : Process
  pub there : process_at s pid ≡ Some process
  pub begins : Begins a process f vs d args g
  pub seen_is : seen ≡ seen_process process

-- whether a list is among arguments
abbrev pub has_list : List ValueArg → Bool
has_list [] = false
has_list (arg.Term e ∷ args) = has_list args
has_list (arg.List w ∷ args) = true

-- the process with other lists, if there are some
abbrev pub with_lists_if_any : Option (List (VarId × PotentialList)) → Process → Process
with_lists_if_any (Some lists) p = with_lists lists p
with_lists_if_any None p = p

-- a process comes that offers the next name, of this type
abbrev pub with_come : State → Process → TypeId → State
with_come s child offers = with_name offers (with_object (object.Process child) s)

-- the process of a number becomes another one, and one comes
abbrev pub with_born : State → ℕ → Process → Process → TypeId → State
with_born s pid q child offers = with_come (with_process pid q s) child offers

-- how a process goes on that spawned one with this purse, under this name, and gave to it what these arguments name
abbrev pub spawning : Acceptance → State → Spawn → ℕ → ℕ → Args → Process → Process
spawning a s spawn name purse args p =
    standing_at spawn.next (with_channel spawn.variable name (poorer purse
    (hands_over_all a s p args.channels (hands_over_lists a s p args.values p))))

-- the state after the process spawned a process of the declaration
abbrev pub spawned : Acceptance → State → Process → Spawn → ProcDecl → Args → Given → State
spawned a s p spawn d args g =
    let child : Process = begins d g s.next_object s.next_name (dths a.annotations d.amount) p.payer in
    with_born s p.pid (spawning a s spawn s.next_name child.purse args p) child d.offers
