-- The lines of the bidders before this one stand there, and the number of the last of them was drawn.
use Rattle.std.proofs.Common.{◌≡◌, ◌++◌}
use Rattle.nomos_words.specs.BenchLoad.{bidders_lines, drawn_at}
use Rattle.nomos_words.proofs.load.push_bidders.Given as goal

abbrev pub invariant-loop-before : goal.invariant-loop-before
invariant-loop-before l = record {
  pushed : l.text.items ≡ l.initial.text.items ++ bidders_lines l.seed l.before;
  drawn : l.drawn ≡ drawn_at l.seed l.before;
}
