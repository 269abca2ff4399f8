use Rattle.std.proofs.Common.{◌≡◌, take}
use Rattle.nomos_elaborate.specs.mirror.Checked.{found}
use Rattle.nomos_elaborate.specs.mirror.CodeCheck.{check_passed}
use Rattle.nomos_elaborate.specs.mirror.Each.{each}
use Rattle.nomos_elaborate.proofs.elaborator.Elaborator.channels.Given as goal

-- the channels so far gave what is there so far
abbrev pub invariant-loop-name : goal.invariant-loop-name
invariant-loop-name l = each check_passed l.self (take l.name-index l.names) ≡ found (l.self, l.channels.items)
