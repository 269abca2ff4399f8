-- No argument so far is a term.
use Rattle.std.proofs.Common.{◌≡◌, drop}
use Rattle.std.specs.List.{flat_map}
use Rattle.nomos_ir.specs.CodeParts.{arg_terms}
use Rattle.nomos_deeds.proofs.outcomes.has_term.Given as goal

abbrev pub invariant-loop-arg : goal.invariant-loop-arg
invariant-loop-arg l = flat_map arg_terms l.args ≡ flat_map arg_terms (drop l.arg-index l.args)
