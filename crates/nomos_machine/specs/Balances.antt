-- What becomes of balances between one state and another.
use Rattle.std.specs.Prelude.{◌≡◌, ◌≤◌, ℕ, ◌==◌, ◌+◌, List, sum_by, slice_index, if◌then◌else◌}
use Rattle.nomos_machine.specs.State.{State}

-- what an account has, in Dths; nothing where there is no such account
abbrev pub balance_of : State → ℕ → ℕ
balance_of s account = slice_index s.balances account

-- no account has less in the second state than in the first
abbrev pub NoBalanceFalls : State → State → Type 0
NoBalanceFalls s t = (account : ℕ) → balance_of s account ≤ balance_of t account

-- what an account pays, where a payer pays so much
abbrev pub paid_by : ℕ → ℕ × ℕ → ℕ
paid_by account e = if e.0 == account then e.1 else 0

-- Between the two states these payers paid so much each, and that is all: each account had what it has afterwards and
-- what it paid.
abbrev pub HavePaid : List (ℕ × ℕ) → State → State → Type 0
HavePaid payments s t =
    (account : ℕ) → balance_of s account ≡ balance_of t account + sum_by (paid_by account) payments
