use Rattle.std.proofs.Common.{◌≡◌, [], length}
use Rattle.nomos_reader.specs.mirror.Terms.{read_nots}
use Rattle.nomos_reader.proofs.term_reader.read_nots.Given as goal

abbrev pub decreases-loop-nots : goal.decreases-loop-nots
decreases-loop-nots l = length l.tokens

-- the words that are left, behind those that were read, are all of them
abbrev pub invariant-loop-nots : goal.invariant-loop-nots
invariant-loop-nots l = read_nots l.nots.items l.tokens ≡ read_nots [] l.fn.tokens
