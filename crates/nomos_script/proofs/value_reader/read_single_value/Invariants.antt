-- The tokens that are left, with the end behind them, lead where all of them do.
use Rattle.std.proofs.Common.{◌≡◌, [], ◌∷◌, ◌++◌, length, codes}
use Rattle.nomos_script.specs.ScriptScan.{mark}
use Rattle.nomos_script.specs.mirror.ValueReading.{nothing_read, read_values}
use Rattle.nomos_script.proofs.value_reader.read_single_value.Given as goal

abbrev pub invariant-loop-token : goal.invariant-loop-token
invariant-loop-token l =
    read_values nothing_read (l.fn.tokens ++ mark (codes ";") ∷ [])
    ≡ read_values l.reader (l.tokens ++ mark (codes ";") ∷ [])

abbrev pub decreases-loop-token : goal.decreases-loop-token
decreases-loop-token l = length l.tokens
