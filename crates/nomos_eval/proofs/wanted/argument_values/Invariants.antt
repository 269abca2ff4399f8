-- The values of the terms before, and what the others come to.
use Rattle.std.proofs.Common.{◌≡◌, map, drop}
use Rattle.std.specs.List.{flat_map}
use Rattle.nomos_ir.specs.CodeParts.{arg_terms}
use Rattle.nomos_ir.specs.ValueNode.{value_of}
use Rattle.nomos_ir.specs.TermsEvaluation.{terms_evaluation}
use Rattle.nomos_eval.specs.mirror.TermsFound.{after_first}
use Rattle.nomos_eval.proofs.wanted.argument_values.Given as goal

abbrev pub invariant-loop-arg : goal.invariant-loop-arg
invariant-loop-arg l =
    terms_evaluation l.lists l.env (flat_map arg_terms l.args)
    ≡ after_first (map value_of l.nodes.items)
    (terms_evaluation l.lists l.env (flat_map arg_terms (drop l.arg-index l.args)))
