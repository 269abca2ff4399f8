-- The tokens so far keep to all rules, and are read.
use Rattle.std.proofs.Common.{[], map, take}
use Rattle.nomos_syntax.specs.Spans.{placed_of}
use Rattle.nomos_grammar.specs.Offence.{AllKeep}
use Rattle.nomos_grammar.specs.mirror.TokenReaders.{IsSteady, IsBehind}
use Rattle.nomos_grammar.proofs.offence.first_offence.Given as goal

abbrev pub invariant-loop-token : goal.invariant-loop-token
invariant-loop-token l = record {
  steady : IsSteady l.reader;
  behind : IsBehind (map (placed_of l.text) (take l.token-index l.token-items)) l.reader;
  kept : AllKeep [] (map (placed_of l.text) (take l.token-index l.token-items));
}
