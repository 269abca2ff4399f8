-- Ledgers: named accounts and contracts, what was deposited, and the state of the machine.
use Rattle.std.specs.Prelude.{◌≢◌, ◌≡◌, ℕ, ◌+◌, ◌*◌, ◌<◌, ◌^◌, List, [], ◌∷◌, ◌++◌, length, find, AllPairs, Option, Some, None, position, bytes_eq}
use Rattle.std.specs.Option.{option_map}
use Rattle.nomos_machine.specs.Starting.{opened, credited}
use Rattle.nomos_machine.specs.State.{State, empty}

-- the names of contracts, each with its shared name, in order of naming
abbrev pub Contracts : Type 0
Contracts = List (List ℕ × ℕ)

-- A ledger: the state of the machine, with the names of its accounts and contracts, and what was deposited.
pub record LedgerState : Type 0 where
  -- the names of the accounts, by number
  pub accounts : List (List ℕ)
  pub contracts : Contracts
  -- the sum of the accepted deposits, in whole units
  pub deposits : ℕ
  pub state : State

-- There are fewer than 2^32 accounts, and one name for each balance. No two accounts have one name, and no two
-- contracts.
pub record AreNamed (accounts : List (List ℕ)) (contracts : Contracts) (balances : List ℕ) : Type 0 where
  pub few : length accounts < 2 ^ 32
  pub each_account : length accounts ≡ length balances
  pub accounts_differ : AllPairs (λ m n. m ≢ n) accounts
  pub contracts_differ : AllPairs (λ c d. c.0 ≢ d.0) contracts

-- what holds of every ledger
abbrev pub IsLedger : LedgerState → Type 0
IsLedger l = AreNamed l.accounts l.contracts l.state.balances

-- the ledger with nothing in it
abbrev pub empty_ledger : LedgerState
empty_ledger = record { accounts = []; contracts = []; deposits = 0; state = empty }

-- the number of the account of this name
abbrev pub account_of : List (List ℕ) → List ℕ → Option ℕ
account_of accounts name = position (λ a. bytes_eq a name) accounts

-- the shared name of the contract of this name
abbrev pub shared_name : Contracts → List ℕ → Option ℕ
shared_name contracts name = option_map (λ c. c.1) (find (λ c. bytes_eq c.0 name) contracts)

-- ---- deposits

-- the deposits fit 64 bits
abbrev pub FitsDeposits : LedgerState → ℕ → Type 0
FitsDeposits l units = l.deposits + units < 2 ^ 64

-- the names of the accounts, with this one at the end where it is new
abbrev pub accounts_with : List (List ℕ) → List ℕ → Option ℕ → List (List ℕ)
accounts_with accounts name (Some account) = accounts
accounts_with accounts name None = accounts ++ name ∷ []

-- the account of this number, or the next one, has so many Dths more
abbrev pub state_with : State → ℕ → Option ℕ → State
state_with s dths (Some account) = credited s account dths
state_with s dths None = opened s dths

-- The ledger after a deposit of so many units, each of which has so many Dths, to the account of this name. Where there
-- is none, it is made.
abbrev pub deposited : ℕ → LedgerState → List ℕ → ℕ → LedgerState
deposited unit l name units = record l {
  accounts = accounts_with l.accounts name (account_of l.accounts name);
  deposits = l.deposits + units;
  state = state_with l.state (units * unit) (account_of l.accounts name);
}
