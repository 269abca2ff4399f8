-- The words in front of those that are left are the options gathered.
use Rattle.std.proofs.Common.{map, string_bytes, length}
use Rattle.nomos_words.specs.mirror.GivenOptions.{option_values}
use Rattle.nomos_words.proofs.GivenOptionLemmas.{HasGathered}
use Rattle.nomos_words.proofs.options.given_of.Given as goal

abbrev pub invariant-loop-left : goal.invariant-loop-left
invariant-loop-left l = HasGathered (map string_bytes l.words) (map string_bytes l.left) (option_values l.given)

abbrev pub decreases-loop-left : goal.decreases-loop-left
decreases-loop-left l = length l.left
