-- At first every alternative may be chosen.
use Rattle.std.proofs.Common.{ap}
use Rattle.nomos_grammar.specs.mirror.Table.{pick, chosen}
use Rattle.nomos_grammar.proofs.productions.side_of.Goals as goal

pub loop-alternative-init : goal.loop-alternative-init
unfolding chosen
loop-alternative-init c = ap (λ more. pick more c.args.next) c.alternatives-alternative-items.ensures
