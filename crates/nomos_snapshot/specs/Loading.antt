-- What is answered where a text is to be loaded.
use Rattle.std.specs.Prelude.{◌≡◌, ◌≤◌, ◌<◌, ◌^◌, ◌*◌, ℕ, List, length, All, Result, Ok, Err}
use Rattle.nomos_legal.specs.Ending.{HasTransaction}
use Rattle.nomos_legal.specs.Ledger.{LedgerState}
use Rattle.nomos_machine.specs.Run.{IsNextReady, NoneReady}
use Rattle.nomos_machine.specs.State.{gas_of}
use Rattle.nomos_machine.specs.TypedState.{IsContractName, IsTyped}
use Rattle.nomos_types.specs.Acceptance.{Acceptance}
use Rattle.nomos_snapshot.specs.GatheredLines.{at_head}
use Rattle.nomos_snapshot.specs.SnapshotReading.{Reads}
use Rattle.nomos_snapshot.specs.declared.error.LoadError.{LoadError}
use Rattle.nomos_snapshot.specs.declared.error.LoadError.TheVariants as error

-- the most bytes of a snapshot
abbrev pub longest_snapshot : ℕ
longest_snapshot = 1073741824

-- The state is typed, each contract's name has mode S, and no transaction is left.
pub record IsSoundLedger (a : Acceptance) (l : LedgerState) : Type 0 where
  pub typed : IsTyped a l.state
  pub contracts : All (λ c. IsContractName a l.state c.1) l.contracts
  pub no_transaction : ¬ (HasTransaction l.state)

-- The gas, in Dths, is that of so many deposited units.
pub record IsWorth (a : Acceptance) (gas units : ℕ) : Type 0 where
  pub few : units < 2 ^ 64
  pub is : gas ≡ units * a.annotations.unit

-- the ledger that is loaded, or why none is
abbrev pub LoadAnswer : Type 0
LoadAnswer = Result LedgerState LoadError

-- What is answered of the ledger that a text tells, in the order of these rows.
pub data Admits (a : Acceptance) (l : LedgerState) : Result LedgerState LoadError → Type 0 where
  not_typed : ¬ (IsSoundLedger a l) → Admits a l (Err error.NotTyped)
  no_units : IsSoundLedger a l → ((units : ℕ) → ¬ (IsWorth a (gas_of l.state) units))
      → Admits a l (Err (error.Gas (gas_of l.state)))
  not_quiet : (units pid : ℕ) → IsSoundLedger a l → IsWorth a (gas_of l.state) units → IsNextReady a l.state 0 pid
      → Admits a l (Err (error.NotQuiet pid))
  -- the deposits are what the gas is worth
  admitted : (units : ℕ) → IsSoundLedger a l → IsWorth a (gas_of l.state) units → NoneReady a l.state 0
      → Admits a l (Ok (record l { deposits = units }))

-- The text is not too long, and tells the ledger.
pub record TellsLedger (a : Acceptance) (text : List ℕ) (l : LedgerState) : Type 0 where
  pub short : length text ≤ longest_snapshot
  pub reads : Reads a 1 at_head text (Ok l)

-- What is answered of a text, in the order of these rows. Want of memory has none.
pub data Loads (a : Acceptance) (text : List ℕ) : Result LedgerState LoadError → Type 0 where
  too_long : longest_snapshot < length text → Loads a text (Err error.TooLong)
  bad_line : (k : ℕ) → length text ≤ longest_snapshot → Reads a 1 at_head text (Err k)
      → Loads a text (Err (error.BadLine k))
  told : (l : LedgerState) (answer : Result LedgerState LoadError) → TellsLedger a text l → Admits a l answer
      → Loads a text answer
