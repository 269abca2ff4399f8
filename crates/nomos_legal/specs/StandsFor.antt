-- Ledgers and worlds that stand for an accepted program, and what the calls on them answer.
use Rattle.std.specs.Prelude.{◌≡◌, ℕ, ◌*◌, ◌<◌, ◌^◌, List, [], All, length}
use Rattle.nomos_types.specs.Acceptance.{Acceptance}
use Rattle.nomos_machine.specs.Run.{IsQuiet}
use Rattle.nomos_machine.specs.State.{gas_of}
use Rattle.nomos_machine.specs.TypedState.{IsTyped, IsContractName}
use Rattle.nomos_legal.specs.Ending.{HasTransaction}
use Rattle.nomos_legal.specs.Ledger.{LedgerState, deposited, FitsDeposits}
use Rattle.nomos_legal.specs.World.{WorldState, FiresAt, ledger_begun, pids_of}
use Rattle.nomos_legal.specs.declared.journal.End.{End}
use Rattle.nomos_legal.specs.declared.journal.End.TheVariants as end
use Rattle.nomos_legal.specs.declared.refusal.Refusal.TheVariants as refusal

-- The ledger's state is typed, has the gas that was deposited, nothing was emitted and nothing is outside, and each
-- contract's name has mode S. So it is between the lines of a batch too.
pub record IsSettled (a : Acceptance) (l : LedgerState) : Type 0 where
  pub typed : IsTyped a l.state
  pub outside : l.state.outside ≡ []
  pub results : l.state.results ≡ []
  pub few : l.deposits < 2 ^ 64
  pub gas : gas_of l.state ≡ l.deposits * a.annotations.unit
  pub contracts : All (λ c. IsContractName a l.state c.1) l.contracts

-- The ledger is settled, no process is ready and no transaction is left.
pub record StandsFor (a : Acceptance) (l : LedgerState) : Type 0 where
  pub settled : IsSettled a l
  pub quiet : IsQuiet a l.state
  pub no_transaction : ¬ (HasTransaction l.state)

-- There is a name for each balance.
abbrev pub NamesBalances : LedgerState → Type 0
NamesBalances l = length l.accounts ≡ length l.state.balances

-- What holds of each ledger between the items of a script: it stands, and there is a name for each balance.
pub record StandsNamed (a : Acceptance) (l : LedgerState) : Type 0 where
  pub stands : StandsFor a l
  pub counted : NamesBalances l

-- The world's origin stands for the program, its start is settled, its contracts are those of its start, and its state
-- is the one that its firings reach from its start, each at its instruction.
pub record WorldStandsFor (a : Acceptance) (w : WorldState) : Type 0 where
  pub origin : StandsFor a w.origin
  pub start : IsSettled a (ledger_begun a w)
  pub contracts : w.contracts ≡ (ledger_begun a w).contracts
  pub reached : FiresAt a (ledger_begun a w).state (pids_of w.firings) w.places w.state

-- what a deposit at this line answers and does
pub record Deposits (a : Acceptance) (before : LedgerState) (line : ℕ) (name : List ℕ) (units : ℕ) (answer : End)
    (after : LedgerState) : Type 0 where
  pub made : FitsDeposits before units
      → (answer ≡ end.Deposited) × (after ≡ deposited a.annotations.unit before name units)
  pub refused : ¬ FitsDeposits before units → (answer ≡ end.Refused line refusal.TooMuchGas) × (after ≡ before)
