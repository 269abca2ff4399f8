-- Nothing is left out of a report: where a line says who stands for a contract, who owns a name or who keeps what is
-- waited for, there is somebody of whom it says so.
use Rattle.std.specs.Prelude.{◌≡◌, ℕ, List, [], map, All, Contains, Some, slice_get}
use Rattle.std.specs.List.{zip}
use Rattle.nomos_ir.specs.declared.code_node.CodeNode.TheVariants as code
use Rattle.nomos_ir.specs.declared.ids.CodeId.{CodeId}
use Rattle.nomos_ir.specs.declared.ids.TypeId.{TypeId}
use Rattle.nomos_ir.specs.declared.ids.VarId.{VarId}
use Rattle.nomos_types.specs.Acceptance.{Acceptance}
use Rattle.nomos_machine.specs.Objects.{object_number, shared_names}
use Rattle.nomos_machine.specs.Sight.{HasOneOwner}
use Rattle.nomos_machine.specs.State.{State, type_of}
use Rattle.nomos_machine.specs.declared.object.Object.{Object}
use Rattle.nomos_machine.specs.declared.object.Object.TheVariants as object
use Rattle.nomos_machine.specs.declared.object.Process.{Process}
use Rattle.nomos_deeds.specs.Readers.{IsLinearType, acquires}
use Rattle.nomos_legal.specs.Ledger.{LedgerState}
use Rattle.nomos_legal.specs.Passage.{Passage}
use Rattle.nomos_report.specs.Reported.{waits_line, waits_lines}
use Rattle.nomos_report.specs.ShownState.{channel_line, contract_line, named_line, owner_line}

-- The line of a contract is that of a process which is there and stands for the contract's shared name.
pub record HasContractLine (unit : ℕ) (objects : List Object) (c : List ℕ × ℕ) : Type 0 where
  pub process : Process
  pub there : Contains objects (object.Process process)
  pub stands : Contains (shared_names (object.Process process)) c.1
  pub line : named_line unit objects c ≡ contract_line unit c.0 (Some process)

-- The line of a name is that of its one owner.
pub record HasOwnerLine (a : Acceptance) (s : State) (name : ℕ) (t : TypeId) : Type 0 where
  pub one : HasOneOwner s name
  pub line : channel_line a s (name, t) ≡ owner_line name (Some (object_number one.object))

-- The line of a process that waits is that of a shared name and of a process which is there and stands for it.
pub record HasWaitsLine (a : Acceptance) (objects : List Object) (p : Process) : Type 0 where
  pub shared : ℕ
  pub waits : acquires a p ≡ Some shared
  pub keeper : Process
  pub there : Contains objects (object.Process keeper)
  pub stands : Contains (shared_names (object.Process keeper)) shared
  pub line : waits_lines a objects (object.Process p) ≡ waits_line p.pid (Some shared) (Some keeper.pid)

-- A `show` of the ledger has a line for each account, for each contract, and for each name whose type has mode R or L;
-- and no other name has one.
pub record ShowsAll (a : Acceptance) (l : LedgerState) : Type 0 where
  pub accounts : map (λ e. e.0) (zip l.accounts l.state.balances) ≡ l.accounts
  pub contracts : All (HasContractLine a.annotations.unit l.state.objects) l.contracts
  pub owned : (name : ℕ) (t : TypeId) → type_of l.state.types name ≡ Some t → IsLinearType a.program t
      → HasOwnerLine a l.state name t
  pub others : (name : ℕ) (t : TypeId) → type_of l.state.types name ≡ Some t → ¬ (IsLinearType a.program t)
      → channel_line a l.state (name, t) ≡ []

-- Each process of the state that stands at `acquire` has its line.
abbrev pub ShowsWaits : Acceptance → State → Type 0
ShowsWaits a s = (p : Process) (at : ℕ) (r v : VarId) (next : CodeId) → Contains s.objects (object.Process p)
    → slice_get a.program.code p.code.0 ≡ Some (code.Acquire at r v next) → HasWaitsLine a s.objects p

-- Of a passage nothing is left out. That is said of the ledger before it, which a `show` prints, and of the state to
-- which its firings lead, whose processes that wait are printed where the batch is blocked.
pub record LeavesNothingOut (a : Acceptance) (p : Passage) : Type 0 where
  pub ledger : ShowsAll a p.before
  pub waits : ShowsWaits a p.last
