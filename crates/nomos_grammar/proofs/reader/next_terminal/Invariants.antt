-- Marks lead from the first parts and counts to those that are left.
use Rattle.std.proofs.Common.{List}
use Rattle.nomos_grammar.specs.declared.part.Mark.{Mark}
use Rattle.nomos_grammar.specs.mirror.ReaderStates.{Leads}
use Rattle.nomos_grammar.specs.mirror.Tallies.{counts_of, IsKept}
use Rattle.nomos_grammar.proofs.DistanceLemmas.{steps_left}
use Rattle.nomos_grammar.proofs.reader.next_terminal.Given as goal

abbrev pub invariant-loop-part : goal.invariant-loop-part
invariant-loop-part l = record {
  marks : List Mark;
  leads : Leads l.next l.initial.parts (counts_of l.initial.tally) marks l.parts (counts_of l.tally);
  kept : IsKept l.tally;
}

abbrev pub decreases-loop-part : goal.decreases-loop-part
decreases-loop-part l = steps_left l.parts
