use Rattle.std.proofs.Common.{◌≡◌}
use Rattle.nomos_equality.specs.mirror.Linking.{Linked}
use Rattle.nomos_equality.proofs.type_classes.TypeClasses.least.Given as goal

-- the classes stay, and the way so far stays in one
abbrev pub invariant-loop-up : goal.invariant-loop-up
invariant-loop-up l =
    record {
      same : l.self ≡ l.fn.self;
      linked : Linked l.self l.t l.at;
      over : Linked l.self l.at l.up;
    }

abbrev pub decreases-loop-up : goal.decreases-loop-up
decreases-loop-up l = l.at
