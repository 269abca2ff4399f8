-- A mirror: what private calls know of what a text tells, and what they answer of it.
use Rattle.std.specs.Prelude.{◌≡◌, ◌<◌, ◌≤◌, ◌^◌, ℕ, List, get_or, All, Contains, Result, Err, MatchResult}
use Rattle.nomos_ir.specs.declared.ids.VarId.{VarId}
use Rattle.nomos_legal.specs.Ending.{HasTransaction}
use Rattle.nomos_legal.specs.Ledger.{Contracts, LedgerState}
use Rattle.nomos_machine.specs.Run.{NoneReady}
use Rattle.nomos_machine.specs.State.{State, gas_of}
use Rattle.nomos_machine.specs.TypedState.{IsContractName, IsTyped}
use Rattle.nomos_machine.specs.declared.object.Object.{Object}
use Rattle.nomos_machine.specs.declared.object.Object.TheVariants as object
use Rattle.nomos_machine.specs.declared.object.PotentialList.{PotentialList}
use Rattle.nomos_machine.specs.declared.object.Process.{Process}
use Rattle.nomos_types.specs.Acceptance.{Acceptance}
use Rattle.nomos_snapshot.specs.Loading.{Admits, IsWorth}
use Rattle.nomos_snapshot.specs.ToldLines.{process_told}
use Rattle.nomos_snapshot.specs.declared.error.LoadError.{LoadError}
use Rattle.nomos_snapshot.specs.declared.told_lines.ToldObject.{ToldObject}
use Rattle.nomos_snapshot.specs.declared.told_lines.ToldObject.TheVariants as told_object

-- ---- lists that no machine keeps

-- each element of one of the lists carries more than 64 bits count
pub record HasWide (p : Process) : Type 0 where
  pub entry : VarId × PotentialList
  pub there : Contains p.lists entry
  pub wide : 2 ^ 64 ≤ entry.1.amount

-- one of the processes has such a list
pub record AreWide (objects : List Object) : Type 0 where
  pub process : Process
  pub there : Contains objects (object.Process process)
  pub wide : HasWide process

abbrev pub IsWideObject : ToldObject → Type 0
IsWideObject (told_object.Process p) = HasWide (process_told p)
IsWideObject (told_object.Message m) = ⊥

-- ---- what is asked of it

-- the state is typed, and no transaction is left
pub record IsSoundState (a : Acceptance) (s : State) : Type 0 where
  pub typed : IsTyped a s
  pub no_transaction : ¬ (HasTransaction s)

-- the names of these contracts have mode S
abbrev pub AreShared : Acceptance → State → Contracts → Type 0
AreShared a s contracts = All (λ c. IsContractName a s c.1) contracts

-- the first so many of them have
pub record AreSharedTo (a : Acceptance) (s : State) (contracts : Contracts) (count : ℕ) : Type 0 where
  pub each : (k : ℕ) (d : List ℕ × ℕ) → k < count → IsContractName a s (get_or contracts k d).1

-- so many units, or all gas where it is worth no count of them
abbrev pub IsWorthOf : Acceptance → State → Result ℕ ℕ → Type 0
IsWorthOf a s worth =
    MatchResult worth (λ units. IsWorth a (gas_of s) units)
    (λ gas. (gas ≡ gas_of s) × ((units : ℕ) → ¬ (IsWorth a gas units)))

-- the state, with these contracts, may be loaded with so many deposited units
pub record MayStand (a : Acceptance) (s : State) (contracts : Contracts) (units : ℕ) : Type 0 where
  pub shared : AreShared a s contracts
  pub worth : IsWorth a (gas_of s) units
  pub quiet : NoneReady a s 0

-- a ledger with this state and these contracts is refused so
abbrev pub Refuses : Acceptance → State → Contracts → LoadError → Type 0
Refuses a s contracts why = (l : LedgerState) → l.state ≡ s → l.contracts ≡ contracts → Admits a l (Err why)
