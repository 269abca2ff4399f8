-- What can be read of a state: what is shown of a process, who stands for a name, and what is walked over.
use Rattle.std.specs.Prelude.{◌≡◌, ◌==◌, ◌&&◌, nat_lt, not, ℕ, Bool, true, false, List, find, length, Option, Some, None, slice_get, IsSome}
use Rattle.std.specs.List.{list_any}
use Rattle.std.specs.Option.{option_map}
use Rattle.nomos_ir.specs.Bindings.{bound_to}
use Rattle.nomos_ir.specs.declared.code_node.CodeNode.{CodeNode}
use Rattle.nomos_ir.specs.declared.code_node.CodeNode.TheVariants as code
use Rattle.nomos_ir.specs.declared.declaration.ProcDecl.{ProcDecl}
use Rattle.nomos_ir.specs.declared.ids.TypeId.{TypeId}
use Rattle.nomos_ir.specs.declared.lists.ProgramLists.{ProgramLists}
use Rattle.nomos_ir.specs.declared.mode.Mode.{Mode}
use Rattle.nomos_ir.specs.declared.mode.Mode.TheVariants as mode
use Rattle.nomos_types.specs.Acceptance.{Acceptance}
use Rattle.nomos_types.specs.Modes.{HasMode, IsLinearMode}
use Rattle.nomos_machine.specs.Objects.{object_at, process_of, shared_names}
use Rattle.nomos_machine.specs.Optional.{◌>>=◌}
use Rattle.nomos_machine.specs.Sight.{shows_shared}
use Rattle.nomos_machine.specs.State.{NameTypes, type_of}
use Rattle.nomos_machine.specs.declared.object.Object.{Object}
use Rattle.nomos_machine.specs.declared.object.Object.TheVariants as object
use Rattle.nomos_machine.specs.declared.object.Process.{Process}
use Rattle.nomos_deeds.specs.declared.machine.View.{View}

-- what is shown of a process
abbrev pub view_of : Process → View
view_of p = record { mode = p.mode; code = p.code; offers = p.offers; base = p.base; purse = p.purse }

-- the shared name for which a process waits where it stands at `acquire`
abbrev pub acquires_at : Process → CodeNode → Option ℕ
acquires_at p (code.Acquire at r v next) = bound_to r.0 p.channels
acquires_at p _ = None

abbrev pub acquires : Acceptance → Process → Option ℕ
acquires a p = slice_get a.program.code p.code.0 >>= acquires_at p

-- the same of the process of a number
abbrev pub waits : Acceptance → List Object → ℕ → Option ℕ
waits a objects pid = object_at objects pid >>= process_of >>= acquires a

-- whether an object is the process that stands for a shared name
abbrev pub stands_for : ℕ → Object → Bool
stands_for name o = list_any (λ n. n == name) (shared_names o)

-- The keeper of a shared name: the number of the process that stands for it.
abbrev pub keeper : List Object → ℕ → Option ℕ
keeper objects name = option_map (λ p. p.pid) (find (stands_for name) objects >>= process_of)

-- a type of names that are used exactly once: one that has mode R or L
abbrev pub IsLinearType : ProgramLists → TypeId → Type 0
IsLinearType lists t = (m : Mode) × HasMode lists t m × IsLinearMode m

-- whether a declaration is one of transactions that offers the type
abbrev pub is_of_mode_t : Mode → Bool
is_of_mode_t mode.T = true
is_of_mode_t _ = false

abbrev pub offers_at_t : TypeId → ProcDecl → Bool
offers_at_t t d = is_of_mode_t d.mode && d.offers.0 == t.0

-- The same by a look: the type is one of the program's, its head does not show S, and no transaction offers it.
abbrev pub looks_linear : ProgramLists → TypeId → Bool
looks_linear lists t =
    nat_lt t.0 (length lists.types) && (not (shows_shared lists (Some t)) && not (list_any (offers_at_t t) lists.procs))

-- a name that has such a type
pub record IsLinearName (lists : ProgramLists) (types : NameTypes) (name : ℕ) : Type 0 where
  pub own : TypeId
  pub found : type_of types name ≡ Some own
  pub linear : IsLinearType lists own

-- the process of a number is there, and has mode T
pub record IsTransaction (objects : List Object) (pid : ℕ) : Type 0 where
  pub process : Process
  pub there : object_at objects pid ≡ Some (object.Process process)
  pub at_t : process.mode ≡ mode.T

-- the process of a number waits for a shared name
abbrev pub IsWaiting : Acceptance → List Object → ℕ → Type 0
IsWaiting a objects pid = IsSome (waits a objects pid)
