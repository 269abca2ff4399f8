-- The names so far are those of the tokens that were taken.
use Rattle.std.proofs.Common.{length}
use Rattle.nomos_script.specs.mirror.ReaderSeen.{AreMoreNames}
use Rattle.nomos_script.proofs.arguments.read_more_names.Given as goal

abbrev pub invariant-names : goal.invariant-names
invariant-names l =
    AreMoreNames l.fn.tokens l.tokens l.fn.names.items l.names.items

abbrev pub decreases-names : goal.decreases-names
decreases-names l = length l.tokens
