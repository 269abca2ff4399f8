use Rattle.std.proofs.Common.{◌≡◌, take}
use Rattle.nomos_state.proofs.plain_data.copy_balances.Given as goal

-- those so far are of the first accounts
abbrev pub invariant-loop-account : goal.invariant-loop-account
invariant-loop-account l = l.made.items ≡ take l.account l.contents.balances.now
