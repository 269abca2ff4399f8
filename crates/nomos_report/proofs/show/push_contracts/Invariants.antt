use Rattle.std.proofs.Common.{◌≡◌, ◌++◌, take}
use Rattle.std.specs.List.{flat_map}
use Rattle.nomos_report.specs.ShownState.{named_line}
use Rattle.nomos_report.proofs.show.push_contracts.Given as goal

-- the lines of the contracts so far
abbrev pub invariant-loop-place : goal.invariant-loop-place
invariant-loop-place g l =
    l.text.items ≡ l.fn.text.items
    ++ flat_map (named_line l.unit l.ledger.state.objects) (take l.place l.ledger.contracts)
