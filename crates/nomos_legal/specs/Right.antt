-- What holds in every legal journal, before and after each firing. Nothing is wrong, each name has its type, each
-- linear channel has one owner, no gas appears or is lost, and no firing debits an account.
use Rattle.std.specs.Prelude.{◌≡◌, ◌≤◌, ◌↔◌, ℕ, ◌*◌, List, length, All, Some, IsSome, take}
use Rattle.nomos_ir.specs.declared.ids.TypeId.{TypeId}
use Rattle.nomos_ir.specs.declared.mode.Mode.{Mode}
use Rattle.nomos_types.specs.Acceptance.{Acceptance}
use Rattle.nomos_types.specs.Modes.{HasMode, IsLinearMode}
use Rattle.nomos_machine.specs.Costs.{PaysFor}
use Rattle.nomos_machine.specs.Objects.{mentioned, times}
use Rattle.nomos_machine.specs.Run.{run}
use Rattle.nomos_machine.specs.Sight.{HasOneOwner}
use Rattle.nomos_machine.specs.State.{State, gas_of, type_of}
use Rattle.nomos_machine.specs.Wrong.{Wrong}
use Rattle.nomos_legal.specs.Debits.{DebitsOnce}
use Rattle.nomos_legal.specs.Legal.{firings_in}
use Rattle.nomos_legal.specs.Passage.{Passage}

-- The state is not wrong; exactly the names that objects mention have a type; each name of mode R or L has one owner;
-- and all gas is what was deposited, in whole units.
pub record IsRight (a : Acceptance) (deposits : ℕ) (s : State) : Type 0 where
  pub not_wrong : ¬ (Wrong a s)
  pub typed : (name : ℕ) → IsSome (type_of s.types name) ↔ (1 ≤ times mentioned s.objects name)
  pub owned : (name : ℕ) (t : TypeId) (m : Mode) → type_of s.types name ≡ Some t → HasMode a.program t m
      → IsLinearMode m → HasOneOwner s name
  pub gas : gas_of s ≡ deposits * a.annotations.unit

-- each front of these firings is a run to a state that is right
abbrev pub RunsRight : Acceptance → ℕ → State → List ℕ → Type 0
RunsRight a deposits start pids =
    (k : ℕ) → (s : State) × (run a start (take k pids) ≡ Some s) × IsRight a deposits s

-- The ledgers before and after the passage are right, and so is the state after each front of its firings, also where
-- the batch is undone; and accounts are debited at its starts alone.
pub record GoesRight (a : Acceptance) (p : Passage) : Type 0 where
  pub before : IsRight a p.before.deposits p.before.state
  pub firings : RunsRight a p.before.deposits p.start.state (firings_in p.entry)
  pub after : IsRight a p.after.deposits p.after.state
  pub debits : DebitsOnce a p

-- so all passages go
abbrev pub AllGoRight : Acceptance → List Passage → Type 0
AllGoRight a ps = All (GoesRight a) ps

-- ---- what firings cost under `cost all`

-- The firings of a passage, a unit for each, come to at most twice the gas spent meanwhile, and a unit for each process
-- of the ledger before it, also where the batch is undone.
abbrev pub PassagePays : Acceptance → Passage → Type 0
PassagePays a p = PaysFor a (length (firings_in p.entry)) p.before.state p.last

-- so do those of all passages
abbrev pub AllPay : Acceptance → List Passage → Type 0
AllPay a ps = All (PassagePays a) ps
