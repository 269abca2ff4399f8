-- The alternatives so far are not chosen.
use Rattle.std.proofs.Common.{◌≡◌, drop, map}
use Rattle.nomos_grammar.specs.mirror.Table.{row_of, pick, chosen}
use Rattle.nomos_grammar.proofs.productions.side_of.Given as goal

abbrev pub invariant-loop-alternative : goal.invariant-loop-alternative
invariant-loop-alternative l =
    pick (map row_of (drop l.alternative-index l.alternative-items)) l.next ≡ chosen l.fn.n l.next
