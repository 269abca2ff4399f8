use Rattle.std.proofs.Common.{◌≡◌, ◌++◌, take}
use Rattle.nomos_restore.proofs.accounts.open_accounts.Given as goal

-- the accounts so far are open
abbrev pub invariant-loop-dths : goal.invariant-loop-dths
invariant-loop-dths g l = record {
  state : g.P.Sight.state l.parts ≡ record (g.P.Sight.state l.fn.parts) {
    balances = (g.P.Sight.state l.fn.parts).balances ++ take l.dths-index l.balances;
  };
  marked : g.P.Parts.marked l.parts ≡ g.P.Parts.marked l.fn.parts;
}
