-- Which name an outside party has, and how it comes to have one: it opens a talk with a process that starts for it.
use Rattle.std.specs.Prelude.{◌≡◌, ◌<◌, ◌≤◌, ℕ, List, [], ◌∷◌, ◌++◌, length, Option, Some, slice_get, slice_index}
use Rattle.nomos_ir.specs.Value.{Value}
use Rattle.nomos_ir.specs.declared.declaration.ProcDecl.{ProcDecl}
use Rattle.nomos_ir.specs.declared.ids.VarId.{VarId}
use Rattle.nomos_ir.specs.declared.mode.Mode.TheVariants as mode
use Rattle.nomos_types.specs.Acceptance.{Acceptance}
use Rattle.nomos_types.specs.Amount.{dths}
use Rattle.nomos_machine.specs.Change.{Change, changed}
use Rattle.nomos_machine.specs.Starting.{starts}
use Rattle.nomos_machine.specs.State.{State}

-- The outside name, if there is one: the name of which an outside party has the client's end. All that an outside party
-- does is said of this one.
abbrev pub outside_name : State → Option ℕ
outside_name s = slice_get s.outside 0

-- a process starts whose name goes to the outside
abbrev pub opens_talk : Acceptance → State → ProcDecl → List (VarId × Value) → List (VarId × ℕ) → ℕ → Change
opens_talk a s d values channels payer =
    record (starts a s d values channels payer) { outside = s.outside ++ s.next_name ∷ [] }

-- the declaration of this number has mode R and no parameters
pub record IsOpener (a : Acceptance) (number : ℕ) (d : ProcDecl) : Type 0 where
  pub declared : slice_get a.program.procs number ≡ Some d
  pub at_r : d.mode ≡ mode.R
  pub no_values : d.values ≡ []
  pub no_channels : d.channels ≡ []

-- and has this name
pub record IsOpenerNamed (a : Acceptance) (name : List ℕ) (number : ℕ) (d : ProcDecl) : Type 0 where
  pub opener : IsOpener a number d
  pub named : d.name ≡ name

-- A talk with a process of the declaration of this number can be opened: nobody is outside yet, and the account has its
-- declared potential.
pub record CanOpen (a : Acceptance) (s : State) (number account : ℕ) : Type 0 where
  pub declaration : ProcDecl
  pub opener : IsOpener a number declaration
  pub nobody : s.outside ≡ []
  pub its_account : account < length s.balances
  pub has : dths a.annotations declaration.amount ≤ slice_index s.balances account

-- the process comes, the account pays for it, and its name goes outside
abbrev pub opened_talk : Acceptance → State → ProcDecl → ℕ → State
opened_talk a s d account = changed s (opens_talk a s d [] [] account)

-- A talk can be opened, and the second state comes of the first by that.
pub record OpensTalk (a : Acceptance) (s : State) (number account : ℕ) (t : State) : Type 0 where
  pub can : CanOpen a s number account
  pub after : t ≡ opened_talk a s can.declaration account
