use Rattle.std.proofs.Common.{◌≡◌, length}
use Rattle.nomos_places.proofs.NeedLemmas.{AreKnown}
use Rattle.nomos_places.proofs.spares.leasts_of.Given as goal

-- what the instructions so far can do without, and what they need, is known
abbrev pub invariant-loop-at : goal.invariant-loop-at
invariant-loop-at l =
    record {
      spares_long : l.at ≡ length l.spares.items;
      leasts_long : l.at ≡ length l.leasts.items;
      known : AreKnown l.accepted l.at l.spares.items l.leasts.items;
    }
