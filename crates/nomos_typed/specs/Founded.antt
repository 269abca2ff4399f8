-- What processes have that no instruction asks for: numbers, modes of names, bases, payers.
use Rattle.std.specs.Prelude.{◌≡◌, ◌<◌, ℕ, length, All, Some}
use Rattle.nomos_contents.specs.declared.data.StateData.{StateData}
use Rattle.nomos_ir.specs.declared.ids.TypeId.{TypeId}
use Rattle.nomos_ir.specs.declared.lists.ProgramLists.{ProgramLists}
use Rattle.nomos_ir.specs.declared.mode.Mode.{Mode}
use Rattle.nomos_machine.specs.Matching.{HasBase}
use Rattle.nomos_machine.specs.Objects.{object_number}
use Rattle.nomos_machine.specs.State.{NameTypes, type_of}
use Rattle.nomos_machine.specs.declared.object.Object.{Object}
use Rattle.nomos_machine.specs.declared.object.Object.TheVariants as object
use Rattle.nomos_machine.specs.declared.object.Process.{Process}
use Rattle.nomos_types.specs.Acceptance.{Acceptance}
use Rattle.nomos_types.specs.Modes.{HasMode}

-- the name has a type, of this mode
pub record NameHasMode (lists : ProgramLists) (types : NameTypes) (name : ℕ) (m : Mode) : Type 0 where
  pub own : TypeId
  pub found : type_of types name ≡ Some own
  pub mode : HasMode lists own m

-- A process is founded: it offers a name of its own mode, it has a base where it has to, and its payer is an account.
pub record IsFounded (lists : ProgramLists) (types : NameTypes) (accounts : ℕ) (p : Process) : Type 0 where
  pub offered : NameHasMode lists types p.offers p.mode
  pub has_base : HasBase lists types p
  pub payer : p.payer < accounts

-- where it is a process, it is founded
abbrev pub ObjectFounded : ProgramLists → NameTypes → ℕ → Object → Type 0
ObjectFounded lists types accounts (object.Process p) = IsFounded lists types accounts p
ObjectFounded lists types accounts (object.Message m) = Unit {0}

-- all numbers of objects are over 0, that of the next one too, and all processes are founded
pub record AreObjectsFounded (a : Acceptance) (d : StateData) : Type 0 where
  pub next : 0 < d.next_object
  pub over : All (λ o. 0 < object_number o) d.objects
  pub founded : All (ObjectFounded a.program d.types (length d.balances)) d.objects
