-- Ledgers that are in order, and what a snapshot keeps of one.
use Rattle.std.specs.Prelude.{◌≡◌, ◌≢◌, [], map, length, All, AllPairs}
use Rattle.std.specs.List.Sorted.{IsStrictlySortedBy}
use Rattle.std.specs.Ordering.{nat_cmp}
use Rattle.nomos_legal.specs.Ledger.{LedgerState}
use Rattle.nomos_machine.specs.Objects.{object_number}
use Rattle.nomos_machine.specs.TypedState.{HasVariables}

-- No two accounts have one name, and no two contracts; there is a name for each balance; names, objects and the
-- variables of each process stand in order of number, each once.
pub record IsOrderly (l : LedgerState) : Type 0 where
  pub even : length l.accounts ≡ length l.state.balances
  pub accounts : AllPairs (λ m n. m ≢ n) l.accounts
  pub contracts : AllPairs (λ c d. c.0 ≢ d.0) l.contracts
  pub names : IsStrictlySortedBy nat_cmp (map (λ t. t.0) l.state.types)
  pub objects : IsStrictlySortedBy nat_cmp (map object_number l.state.objects)
  pub variables : All HasVariables l.state.objects

-- the ledger without what its snapshot does not have: the sum of deposits, results, and names outside
abbrev pub kept : LedgerState → LedgerState
kept l = record l { deposits = 0; state = record l.state { results = []; outside = [] } }
