-- The tokens that are left lead where all of them do.
use Rattle.std.proofs.Common.{◌≡◌, length}
use Rattle.nomos_script.specs.mirror.ValueReading.{nothing_read, read_values}
use Rattle.nomos_script.proofs.value_reader.read_values.Given as goal

abbrev pub invariant-loop-token : goal.invariant-loop-token
invariant-loop-token l = read_values nothing_read l.fn.tokens ≡ read_values l.reader l.tokens

abbrev pub decreases-loop-token : goal.decreases-loop-token
decreases-loop-token l = length l.tokens
