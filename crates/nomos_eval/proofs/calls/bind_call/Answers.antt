-- The topmost values are the last ones of the stack.
use Rattle.std.proofs.Common.{◌≡◌, ◌-◌, ◌∙◌, length, take, drop, refl}
use Rattle.std.proofs.lemmas.List.{take_rest}
use Rattle.nomos_eval.specs.mirror.Evaluator.{arguments_at}
use Rattle.nomos_eval.proofs.CallLemmas.{arguments-last, bound-call, names_of}
use Rattle.nomos_eval.proofs.calls.bind_call.Goals as goal

pub returns : goal.returns
returns c =
    let xs = c.as_slice-values.result.now in
    let first = c.args.evaluator.now.values in
    let arguments = take (length xs - (length xs - c.args.count)) (drop (length xs - c.args.count) xs) in
    let last : arguments ≡ arguments_at c.args.count first = take_rest xs (length xs - c.args.count)
    ∙ arguments-last c.args.count first xs c.as_slice-values.ensures c.requires.enough in (
      bound-call (names_of c.args.pars.now) c.args.count first c.drop_values.new.values arguments
          c.args.evaluator.now.scopes c.add_call.new.self c.in_ok-place.place last c.in_ok-place.ensures.0
          c.in_ok-place.ensures.1 c.drop_values.ensures,
      refl,
      refl,
      refl,
    )
