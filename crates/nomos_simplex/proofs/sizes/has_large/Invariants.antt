use Rattle.std.proofs.Common.{◌≡◌, false, take}
use Rattle.std.specs.List.{list_any}
use Rattle.nomos_simplex.specs.Exchange.{is_large}
use Rattle.nomos_simplex.proofs.sizes.has_large.Given as goal

abbrev pub invariant-loop-number : goal.invariant-loop-number
invariant-loop-number l = list_any is_large (take l.number-index l.numbers) ≡ false
