use Rattle.std.proofs.Common.{◌≡◌, ◌++◌, ◌≤◌, ◌-◌, length, take}
use Rattle.std.specs.List.{flat_map, zip}
use Rattle.nomos_report.specs.ShownState.{account_line}
use Rattle.nomos_report.proofs.show.push_accounts.Given as goal

-- the lines of the accounts so far
abbrev pub invariant-loop-account : goal.invariant-loop-account
invariant-loop-account g l =
    (l.text.items ≡ l.fn.text.items
    ++ flat_map (account_line l.unit) (take l.number (zip l.ledger.accounts l.ledger.state.balances)))
    × (l.number ≤ length l.ledger.accounts)

-- how many accounts are left
abbrev pub decreases-loop-account : goal.decreases-loop-account
decreases-loop-account g l = length l.ledger.accounts - l.number
